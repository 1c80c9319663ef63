-- The texts of commands, of reply lines, and of an installer's input and output lines, by cases on whole texts.
use Rattle.std.specs.Prelude.{◌≡◌, ℕ, List, ◌++◌, codes, decimal, ⊤, Some, None}
use Rattle.ipnet.specs.IpNetText.{net_text}
use Rattle.ipnet.specs.IpNets.{block, network_at}
use Rattle.route_lines.specs.Phrase.{Then, After}
use Rattle.route_lines.specs.Words.{IsNet, IsNumber, IsLimit, IsCount, IsHop, IsOptional, IsPreferred}
use Rattle.route_choices.specs.declared.hop.Hop.{Hop}
use Rattle.route_choices.specs.declared.hop.Hop.TheVariants as Hops
use Rattle.route_lines.specs.declared.command.Command.{Command}
use Rattle.route_lines.specs.declared.command.Command.TheVariants as C
use Rattle.route_lines.specs.declared.reply.Closing.{Closing}
use Rattle.route_lines.specs.declared.reply.Closing.TheVariants.{Done, Missing, Bad, Refused}
use Rattle.route_lines.specs.declared.reply.Reply.{Reply}
use Rattle.route_lines.specs.declared.reply.Reply.TheVariants as R
use Rattle.route_lines.specs.declared.fib_input.FibInput.{FibInput}
use Rattle.route_lines.specs.declared.fib_input.FibInput.TheVariants as N
use Rattle.route_lines.specs.declared.fib_update.FibUpdate.{FibUpdate}
use Rattle.route_lines.specs.declared.fib_update.FibUpdate.TheVariants as U
use Rattle.route_table.specs.declared.between.Operation.{Operation}
use Rattle.route_table.specs.declared.between.Operation.TheVariants as O

-- the text spells a command
abbrev pub IsCommand : List ℕ → Command → Type 0
IsCommand text (C.Add net hop pref) = After (codes "add ") (Then IsNet IsPreferred) text (net, (hop, pref))
IsCommand text (C.Del net hop) = After (codes "del ") (Then IsNet IsHop) text (net, hop)
IsCommand text (C.Get net) = After (codes "get ") IsNet text net
IsCommand text (C.Cover net) = After (codes "cover ") IsNet text net
IsCommand text (C.List net) = After (codes "list ") IsNet text net
IsCommand text (C.All net) = After (codes "all ") IsNet text net
IsCommand text (C.PageFrom net limit) = After (codes "from ") (Then IsNet IsLimit) text (net, limit)
IsCommand text (C.PageAfter net limit) = After (codes "after ") (Then IsNet IsLimit) text (net, limit)
IsCommand text (C.Own number) = After (codes "own ") IsNumber text number
IsCommand text C.Count = text ≡ codes "count"
IsCommand text C.Flat = text ≡ codes "flat"

-- the word of a closing line
abbrev pub closing_text : Closing → List ℕ
closing_text Done = codes "ok"
closing_text Missing = codes "none"
closing_text Bad = codes "bad"
closing_text Refused = codes "refused"

-- the text spells a reply line
abbrev pub IsReply : List ℕ → Reply → Type 0
IsReply text (R.Set net number) = After (codes "set ") (Then IsNet IsNumber) text (net, number)
IsReply text (R.Unset net) = After (codes "unset ") IsNet text net
IsReply text (R.Route net hop pref) = After (codes "route ") (Then IsNet IsOptional) text (net, (hop, pref))
IsReply text (R.Flat net number) = After (codes "flat ") (Then IsNet IsNumber) text (net, number)
IsReply text (R.Own net) = After (codes "own ") IsNet text net
IsReply text (R.Count v4 v6) = After (codes "count ") (Then IsCount IsCount) text (v4, v6)
IsReply text (R.Close closing) = text ≡ closing_text closing

-- the text spells a line of an installer's input
abbrev pub IsNote : List ℕ → FibInput → Type 0
IsNote text (N.Have net hop) = After (codes "have ") (Then IsNet IsHop) text (net, hop)
IsNote text N.Sync = text ≡ codes "sync"
IsNote text (N.Reply reply) = IsReply text reply

-- the text spells a line of an installer's output
abbrev pub IsUpdate : List ℕ → FibUpdate → Type 0
IsUpdate text (U.Install net hop) = After (codes "install ") (Then IsNet IsHop) text (net, hop)
IsUpdate text (U.Remove net) = After (codes "remove ") IsNet text net
IsUpdate text U.Done = text ≡ codes "ok"

-- the line of an operation
abbrev pub update_for : Operation → FibUpdate
update_for (O.Install net hop) = U.Install net hop
update_for (O.Remove net) = U.Remove net

-- the word of a hop
abbrev pub hop_text : Hop → List ℕ
hop_text (Hops.Number n) = decimal n
hop_text Hops.Drop = codes "drop"

-- the printed text of a reply line
abbrev pub reply_text : Reply → List ℕ
reply_text (R.Set net number) = codes "set " ++ net_text net ++ codes " " ++ decimal number
reply_text (R.Unset net) = codes "unset " ++ net_text net
reply_text (R.Route net hop None) = codes "route " ++ net_text net ++ codes " " ++ hop_text hop
reply_text (R.Route net hop (Some pref)) = codes "route " ++ net_text net ++ codes " " ++ hop_text hop ++ codes " " ++ decimal pref
reply_text (R.Flat net number) = codes "flat " ++ net_text net ++ codes " " ++ decimal number
reply_text (R.Own net) = codes "own " ++ net_text net
reply_text (R.Count v4 v6) = codes "count " ++ decimal v4 ++ codes " " ++ decimal v6
reply_text (R.Close closing) = closing_text closing

-- the network, if there is one, has no host bits
abbrev pub IsPrintable : Reply → Type 0
IsPrintable (R.Set net number) = net ≡ network_at (block net)
IsPrintable (R.Unset net) = net ≡ network_at (block net)
IsPrintable (R.Route net hop pref) = net ≡ network_at (block net)
IsPrintable (R.Flat net number) = net ≡ network_at (block net)
IsPrintable (R.Own net) = net ≡ network_at (block net)
IsPrintable (R.Count v4 v6) = ⊤
IsPrintable (R.Close closing) = ⊤

-- the printed text of a line of an installer's output
abbrev pub update_text : FibUpdate → List ℕ
update_text (U.Install net hop) = codes "install " ++ net_text net ++ codes " " ++ hop_text hop
update_text (U.Remove net) = codes "remove " ++ net_text net
update_text U.Done = codes "ok"

-- the network, if there is one, has no host bits
abbrev pub IsPrintableUpdate : FibUpdate → Type 0
IsPrintableUpdate (U.Install net hop) = net ≡ network_at (block net)
IsPrintableUpdate (U.Remove net) = net ≡ network_at (block net)
IsPrintableUpdate U.Done = ⊤
