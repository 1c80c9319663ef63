-- The lines that an installer writes: one value, a longest text, no line end; and what is printed reads as that line.
use Rattle.std.proofs.Common.{◌≡◌, ◌↔◌, ℕ, List, [], ◌∷◌, codes, refl, arith}
use Rattle.ipnet.specs.IpNetText.{net_text}
use Rattle.ipnet.specs.IpNets.{block, network_at}
use Rattle.route_table.specs.Operations.{network_of}
use Rattle.route_table.specs.declared.between.Operation.{Operation}
use Rattle.route_table.specs.declared.between.Operation.TheVariants as O
use Rattle.route_lines.specs.InnerFree as Free
use Rattle.route_lines.specs.Texts.{IsUpdate, IsPrintableUpdate, hop_text, update_for, update_text}
use Rattle.route_lines.specs.InnerPrinted.{UpdateWords}
use Rattle.route_lines.specs.declared.fib_update.FibUpdate.{FibUpdate}
use Rattle.route_lines.specs.declared.fib_update.FibUpdate.TheVariants as U
use Rattle.route_lines.specs.Grammar.{IsGrammar, IsTextOf}
use Rattle.route_lines.proofs.Good as Good
use Rattle.route_lines.proofs.Forms.{Form, Made, phrase, word, lines}
use Rattle.route_lines.proofs.Printed.{alone, both, cut, text_of_each}
use Rattle.route_lines.proofs.PrintedCommands.{net_again, hop_again}

abbrev forms : List (Form FibUpdate 70)
forms =
    phrase (codes "install ") (λ rest. refl) refl (omega arith) (Good.then Free.net Good.net Good.hop) (λ x. U.Install x.0 x.1)
    ∷ phrase (codes "remove ") (λ rest. refl) refl (omega arith) Good.net U.Remove
    ∷ word (codes "ok") refl (omega arith) U.Done
    ∷ []

made : (text : List ℕ) (u : FibUpdate) → IsUpdate text u → Made forms text u
made text (U.Install net hop) h = record { at = 0; value = (net, hop); is = refl; spells = h }
made text (U.Remove net) h = record { at = 1; value = net; is = refl; spells = h }
made text U.Done h = record { at = 2; value = tt; is = refl; spells = h }

pub updates : IsGrammar IsUpdate 70
updates = lines forms IsUpdate refl made

-- ---- what is printed

pub prints : (u : FibUpdate) → IsPrintableUpdate u → UpdateWords u → IsUpdate (update_text u) u
prints (U.Install net hop) block w = both (codes "install ") (net_text net) (hop_text hop) (net, hop) (net, w.0, block) w.1
prints (U.Remove net) block w = alone (codes "remove ") (net_text net) net (net, w, block)
prints U.Done block w = refl

pub printable_update : (text : List ℕ) (u : FibUpdate) → IsUpdate text u → IsPrintableUpdate u
printable_update text (U.Install net hop) h = cut h.phrase.front net h.phrase.first
printable_update text (U.Remove net) h = cut h.rest net h.phrase
printable_update text U.Done h = tt

words : (text : List ℕ) (u : FibUpdate) → IsUpdate text u → UpdateWords u
words text (U.Install net hop) h = (net_again h.phrase.front net h.phrase.first, hop_again h.phrase.back hop h.phrase.second)
words text (U.Remove net) h = net_again h.rest net h.phrase
words text U.Done h = tt

pub texts : IsTextOf IsUpdate update_text
texts = text_of_each update_text updates (λ text u h. prints u (printable_update text u h) (words text u h))

pub printable_operation : (o : Operation) → IsPrintableUpdate (update_for o) ↔ (network_of o ≡ network_at (block (network_of o)))
printable_operation (O.Install net hop) = (λ h. h, λ h. h)
printable_operation (O.Remove net) = (λ h. h, λ h. h)
