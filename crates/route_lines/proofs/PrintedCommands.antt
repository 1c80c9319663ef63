-- What is printed of a command reads as that command.
use Rattle.std.proofs.Common.{◌≡◌, ℕ, ◌≤◌, ◌==◌, cond, Bool, true, false, Option, Some, None, List, [], ◌++◌, codes, decimal, refl, sym, subst, append_assoc, append-nil, unwrap_or, arith}
use Rattle.std.proofs.lemmas.Bool.Decides.{nat_tests}
use Rattle.ipnet.specs.IpNetText.{net_text, Reads}
use Rattle.ipnet.specs.declared.ip_net.IpNet.{IpNet}
use Rattle.ipnet.proofs.Spelled.{cut_reads}
use Rattle.route_choices.specs.Choices.{default_preference}
use Rattle.route_choices.specs.declared.hop.Hop.{Hop}
use Rattle.route_choices.specs.declared.hop.Hop.TheVariants.{Number, Drop}
use Rattle.route_lines.specs.Grammar.{IsTextOf}
use Rattle.route_lines.specs.InnerPrinted.{CommandWords}
use Rattle.route_lines.specs.Words.{IsNet, IsHop, IsOptional, IsPreferred}
use Rattle.route_lines.specs.Texts.{IsCommand, hop_text}
use Rattle.route_lines.specs.CommandText.{command_text, preference_text, IsPrintableCommand}
use Rattle.route_lines.specs.declared.command.Command.{Command}
use Rattle.route_lines.specs.declared.command.Command.TheVariants as C
use Rattle.route_lines.proofs.Commands.{commands}
use Rattle.route_lines.proofs.Printed.{alone, both, cut, text_of_each}

preferred : (hop : Hop) (pref : ℕ) → IsHop (hop_text hop) hop → pref ≤ 0xffff → IsPreferred (hop_text hop ++ preference_text pref) (hop, pref)
preferred hop pref h small = go (pref == default_preference) refl
  where
    go : (b : Bool) → (pref == default_preference) ≡ b → IsPreferred (hop_text hop ++ cond b [] (codes " " ++ decimal pref)) (hop, pref)
    go true e = (None, subst (λ text. IsHop text hop) (sym (append-nil (hop_text hop))) h, grind (arith, nat_tests))
    go false e = (Some pref, record { front = hop_text hop; back = decimal pref; spelled = simp append_assoc; first = h; second = (refl, omega arith, small) }, refl)

pub prints : (c : Command) → IsPrintableCommand c → CommandWords c → IsCommand (command_text c) c
prints (C.Add net hop pref) block w =
    subst (λ text. IsCommand text (C.Add net hop pref)) (sym (append_assoc (codes "add " ++ net_text net ++ codes " ") (hop_text hop) (preference_text pref)))
    (both (codes "add ") (net_text net) (hop_text hop ++ preference_text pref) (net, (hop, pref)) (net, w.0, block) (preferred hop pref w.1 w.2))
prints (C.Del net hop) block w = both (codes "del ") (net_text net) (hop_text hop) (net, hop) (net, w.0, block) w.1
prints (C.Get net) block w = alone (codes "get ") (net_text net) net (net, w, block)
prints (C.Cover net) block w = alone (codes "cover ") (net_text net) net (net, w, block)
prints (C.List net) block w = alone (codes "list ") (net_text net) net (net, w, block)
prints (C.All net) block w = alone (codes "all ") (net_text net) net (net, w, block)
prints (C.PageFrom net limit) h w = both (codes "from ") (net_text net) (decimal limit) (net, limit) (net, w, h.0) (refl, h.1, h.2)
prints (C.PageAfter net limit) h w = both (codes "after ") (net_text net) (decimal limit) (net, limit) (net, w, h.0) (refl, h.1, h.2)
prints (C.Own n) h w = alone (codes "own ") (decimal n) n (refl, omega arith, w)
prints C.Count h w = refl
prints C.Flat h w = refl

-- ---- what is read can be printed

pub printable_command : (text : List ℕ) (c : Command) → IsCommand text c → IsPrintableCommand c
printable_command text (C.Add net hop pref) h = cut h.phrase.front net h.phrase.first
printable_command text (C.Del net hop) h = cut h.phrase.front net h.phrase.first
printable_command text (C.Get net) h = cut h.rest net h.phrase
printable_command text (C.Cover net) h = cut h.rest net h.phrase
printable_command text (C.List net) h = cut h.rest net h.phrase
printable_command text (C.All net) h = cut h.rest net h.phrase
printable_command text (C.PageFrom net limit) h = (cut h.phrase.front net h.phrase.first, h.phrase.second.1, h.phrase.second.2)
printable_command text (C.PageAfter net limit) h = (cut h.phrase.front net h.phrase.first, h.phrase.second.1, h.phrase.second.2)
printable_command text (C.Own n) h = tt
printable_command text C.Count h = tt
printable_command text C.Flat h = tt

pub net_again : (text : List ℕ) (net : IpNet) → IsNet text net → Reads (net_text net) net
net_again text net h = subst (λ n. Reads (net_text n) n) (sym h.2) (cut_reads text h.0 h.1)

pub hop_again : (text : List ℕ) (hop : Hop) → IsHop text hop → IsHop (hop_text hop) hop
hop_again text (Number n) h = (refl, h.1, h.2)
hop_again text Drop h = refl

optional_small : (text : List ℕ) (hop : Hop) (given : Option ℕ) → IsOptional text (hop, given) → IsHop (hop_text hop) hop × (unwrap_or given default_preference ≤ 0xffff)
optional_small text hop (Some pref) h = (hop_again h.front hop h.first, h.second.2)
optional_small text hop None h = (hop_again text hop h, omega arith)

preferred_again : (text : List ℕ) (hop : Hop) (pref : ℕ) → IsPreferred text (hop, pref) → IsHop (hop_text hop) hop × (pref ≤ 0xffff)
preferred_again text hop pref h = (let small = optional_small text hop h.0 h.1 in (small.0, omega (arith, h.2, small.1)))

words : (text : List ℕ) (c : Command) → IsCommand text c → CommandWords c
words text (C.Add net hop pref) h = let route = preferred_again h.phrase.back hop pref h.phrase.second in (net_again h.phrase.front net h.phrase.first, route.0, route.1)
words text (C.Del net hop) h = (net_again h.phrase.front net h.phrase.first, hop_again h.phrase.back hop h.phrase.second)
words text (C.Get net) h = net_again h.rest net h.phrase
words text (C.Cover net) h = net_again h.rest net h.phrase
words text (C.List net) h = net_again h.rest net h.phrase
words text (C.All net) h = net_again h.rest net h.phrase
words text (C.PageFrom net limit) h = net_again h.phrase.front net h.phrase.first
words text (C.PageAfter net limit) h = net_again h.phrase.front net h.phrase.first
words text (C.Own n) h = h.phrase.2
words text C.Count h = tt
words text C.Flat h = tt

pub texts : IsTextOf IsCommand command_text
texts = text_of_each command_text commands (λ text c h. prints c (printable_command text c h) (words text c h))
