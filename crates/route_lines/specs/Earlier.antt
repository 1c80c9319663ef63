-- The reply lines of leaders without preferences, by cases on whole texts.
use Rattle.std.specs.Prelude.{◌≡◌, ℕ, List, codes, Some, None}
use Rattle.route_lines.specs.Phrase.{Then, After}
use Rattle.route_lines.specs.Words.{IsNet, IsNumber, IsCount, IsHop}
use Rattle.route_lines.specs.Texts.{closing_text}
use Rattle.route_lines.specs.declared.reply.Reply.{Reply}
use Rattle.route_lines.specs.declared.reply.Reply.TheVariants as R

-- a reply line of such a leader, as a reply line of today: a route had a network and a hop
abbrev pub IsEarlierReply : List ℕ → Reply → Type 0
IsEarlierReply text (R.Set net number) = After (codes "set ") (Then IsNet IsNumber) text (net, number)
IsEarlierReply text (R.Unset net) = After (codes "unset ") IsNet text net
IsEarlierReply text (R.Route net hop None) = After (codes "route ") (Then IsNet IsHop) text (net, hop)
IsEarlierReply text (R.Route net hop (Some pref)) = ⊥
IsEarlierReply text (R.Flat net number) = After (codes "flat ") (Then IsNet IsNumber) text (net, number)
IsEarlierReply text (R.Own net) = After (codes "own ") IsNet text net
IsEarlierReply text (R.Count v4 v6) = After (codes "count ") (Then IsCount IsCount) text (v4, v6)
IsEarlierReply text (R.Close closing) = text ≡ closing_text closing
