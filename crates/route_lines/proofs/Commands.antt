-- The forms of commands.
use Rattle.std.proofs.Common.{ℕ, List, [], ◌∷◌, codes, refl, arith}
use Rattle.route_lines.specs.Texts.{IsCommand}
use Rattle.route_lines.specs.InnerFree as Free
use Rattle.route_lines.specs.Grammar.{IsGrammar}
use Rattle.route_lines.proofs.Good as Good
use Rattle.route_lines.proofs.Forms.{Form, Made, phrase, word, lines}
use Rattle.route_lines.specs.declared.command.Command.{Command}
use Rattle.route_lines.specs.declared.command.Command.TheVariants as C

abbrev forms : List (Form Command 72)
forms =
    phrase (codes "add ") (λ rest. refl) refl (omega arith) (Good.then Free.net Good.net Good.preferred) (λ x. C.Add x.0 x.1.0 x.1.1)
    ∷ phrase (codes "del ") (λ rest. refl) refl (omega arith) (Good.then Free.net Good.net Good.hop) (λ x. C.Del x.0 x.1)
    ∷ phrase (codes "get ") (λ rest. refl) refl (omega arith) Good.net C.Get
    ∷ phrase (codes "cover ") (λ rest. refl) refl (omega arith) Good.net C.Cover
    ∷ phrase (codes "list ") (λ rest. refl) refl (omega arith) Good.net C.List
    ∷ phrase (codes "all ") (λ rest. refl) refl (omega arith) Good.net C.All
    ∷ phrase (codes "from ") (λ rest. refl) refl (omega arith) (Good.then Free.net Good.net Good.limit) (λ x. C.PageFrom x.0 x.1)
    ∷ phrase (codes "after ") (λ rest. refl) refl (omega arith) (Good.then Free.net Good.net Good.limit) (λ x. C.PageAfter x.0 x.1)
    ∷ phrase (codes "own ") (λ rest. refl) refl (omega arith) Good.u32 C.Own
    ∷ word (codes "count") refl (omega arith) C.Count
    ∷ word (codes "flat") refl (omega arith) C.Flat
    ∷ []

made : (text : List ℕ) (c : Command) → IsCommand text c → Made forms text c
made text (C.Add net hop pref) h = record { at = 0; value = (net, (hop, pref)); is = refl; spells = h }
made text (C.Del net hop) h = record { at = 1; value = (net, hop); is = refl; spells = h }
made text (C.Get net) h = record { at = 2; value = net; is = refl; spells = h }
made text (C.Cover net) h = record { at = 3; value = net; is = refl; spells = h }
made text (C.List net) h = record { at = 4; value = net; is = refl; spells = h }
made text (C.All net) h = record { at = 5; value = net; is = refl; spells = h }
made text (C.PageFrom net limit) h = record { at = 6; value = (net, limit); is = refl; spells = h }
made text (C.PageAfter net limit) h = record { at = 7; value = (net, limit); is = refl; spells = h }
made text (C.Own n) h = record { at = 8; value = n; is = refl; spells = h }
made text C.Count h = record { at = 9; value = tt; is = refl; spells = h }
made text C.Flat h = record { at = 10; value = tt; is = refl; spells = h }

pub commands : IsGrammar IsCommand 72
commands = lines forms IsCommand refl made
