-- The printed text of a command.
use Rattle.std.specs.Prelude.{◌≡◌, ℕ, ◌≤◌, ◌==◌, if◌then◌else◌, List, [], ◌++◌, codes, decimal, ⊤}
use Rattle.ipnet.specs.IpNetText.{net_text}
use Rattle.ipnet.specs.IpNets.{block, network_at}
use Rattle.route_lines.specs.Texts.{hop_text}
use Rattle.route_lines.specs.declared.command.Command.{Command}
use Rattle.route_lines.specs.declared.command.Command.TheVariants as C
use Rattle.route_choices.specs.Choices.{default_preference}

-- the text after the hop: a space and the preference, or nothing if it is the default preference
abbrev pub preference_text : ℕ → List ℕ
preference_text pref = if pref == default_preference then [] else codes " " ++ decimal pref

-- the printed text of a command
abbrev pub command_text : Command → List ℕ
command_text (C.Add net hop pref) = codes "add " ++ net_text net ++ codes " " ++ hop_text hop ++ preference_text pref
command_text (C.Del net hop) = codes "del " ++ net_text net ++ codes " " ++ hop_text hop
command_text (C.Get net) = codes "get " ++ net_text net
command_text (C.Cover net) = codes "cover " ++ net_text net
command_text (C.List net) = codes "list " ++ net_text net
command_text (C.All net) = codes "all " ++ net_text net
command_text (C.PageFrom net limit) = codes "from " ++ net_text net ++ codes " " ++ decimal limit
command_text (C.PageAfter net limit) = codes "after " ++ net_text net ++ codes " " ++ decimal limit
command_text (C.Own number) = codes "own " ++ decimal number
command_text C.Count = codes "count"
command_text C.Flat = codes "flat"

-- the network, if there is one, has no host bits, and the limit is one that a line can have
abbrev pub IsPrintableCommand : Command → Type 0
IsPrintableCommand (C.Add net hop pref) = net ≡ network_at (block net)
IsPrintableCommand (C.Del net hop) = net ≡ network_at (block net)
IsPrintableCommand (C.Get net) = net ≡ network_at (block net)
IsPrintableCommand (C.Cover net) = net ≡ network_at (block net)
IsPrintableCommand (C.List net) = net ≡ network_at (block net)
IsPrintableCommand (C.All net) = net ≡ network_at (block net)
IsPrintableCommand (C.PageFrom net limit) = (net ≡ network_at (block net)) × (1 ≤ limit) × (limit ≤ 1000)
IsPrintableCommand (C.PageAfter net limit) = (net ≡ network_at (block net)) × (1 ≤ limit) × (limit ≤ 1000)
IsPrintableCommand (C.Own number) = ⊤
IsPrintableCommand C.Count = ⊤
IsPrintableCommand C.Flat = ⊤
