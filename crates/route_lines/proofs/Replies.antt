-- The forms of reply lines.
use Rattle.std.proofs.Common.{◌≢◌, ℕ, List, [], ◌∷◌, codes, refl, arith}
use Rattle.route_lines.specs.Texts.{IsReply}
use Rattle.route_lines.specs.InnerFree as Free
use Rattle.route_lines.specs.Grammar.{IsGrammar}
use Rattle.route_lines.proofs.Good as Good
use Rattle.route_lines.proofs.Forms.{Form, Made, phrase, word, lines, start, begins_otherwise}
use Rattle.route_lines.specs.declared.reply.Closing.TheVariants.{Done, Missing, Bad, Refused}
use Rattle.route_lines.specs.declared.reply.Reply.{Reply}
use Rattle.route_lines.specs.declared.reply.Reply.TheVariants as R

abbrev forms : List (Form Reply 74)
forms =
    phrase (codes "set ") (λ rest. refl) refl (omega arith) (Good.then Free.net Good.net Good.u32) (λ x. R.Set x.0 x.1)
    ∷ phrase (codes "unset ") (λ rest. refl) refl (omega arith) Good.net R.Unset
    ∷ phrase (codes "route ") (λ rest. refl) refl (omega arith) (Good.then Free.net Good.net Good.optional) (λ x. R.Route x.0 x.1.0 x.1.1)
    ∷ phrase (codes "flat ") (λ rest. refl) refl (omega arith) (Good.then Free.net Good.net Good.u32) (λ x. R.Flat x.0 x.1)
    ∷ phrase (codes "own ") (λ rest. refl) refl (omega arith) Good.net R.Own
    ∷ phrase (codes "count ") (λ rest. refl) refl (omega arith) (Good.then (Free.decimal_word 0 0xffffffffffffffff (omega arith)) Good.u64 Good.u64) (λ x. R.Count x.0 x.1)
    ∷ word (codes "ok") refl (omega arith) (R.Close Done)
    ∷ word (codes "none") refl (omega arith) (R.Close Missing)
    ∷ word (codes "bad") refl (omega arith) (R.Close Bad)
    ∷ word (codes "refused") refl (omega arith) (R.Close Refused)
    ∷ []

made : (text : List ℕ) (c : Reply) → IsReply text c → Made forms text c
made text (R.Set net n) h = record { at = 0; value = (net, n); is = refl; spells = h }
made text (R.Unset net) h = record { at = 1; value = net; is = refl; spells = h }
made text (R.Route net hop pref) h = record { at = 2; value = (net, (hop, pref)); is = refl; spells = h }
made text (R.Flat net n) h = record { at = 3; value = (net, n); is = refl; spells = h }
made text (R.Own net) h = record { at = 4; value = net; is = refl; spells = h }
made text (R.Count v4 v6) h = record { at = 5; value = (v4, v6); is = refl; spells = h }
made text (R.Close Done) h = record { at = 6; value = tt; is = refl; spells = h }
made text (R.Close Missing) h = record { at = 7; value = tt; is = refl; spells = h }
made text (R.Close Bad) h = record { at = 8; value = tt; is = refl; spells = h }
made text (R.Close Refused) h = record { at = 9; value = tt; is = refl; spells = h }

pub replies : IsGrammar IsReply 74
replies = lines forms IsReply refl made

pub not_have : (text : List ℕ) (a : Reply) → IsReply text a → start text ≢ start (codes "have ")
not_have text a h = begins_otherwise forms (start (codes "have ")) refl text a (made text a h)

pub not_sync : (text : List ℕ) (a : Reply) → IsReply text a → start text ≢ start (codes "sync")
not_sync text a h = begins_otherwise forms (start (codes "sync")) refl text a (made text a h)
