-- The reply of a leader to each command, and its table after the command.
use Rattle.std.specs.Prelude.{◌&&◌, ◌==◌, ℕ, Bool, true, false, List, [], ◌∷◌, ◌++◌, if◌then◌else◌, Option, Some, None, map, take, filter}
use Rattle.std.specs.Option.{option_map_or}
use Rattle.ipnet_addr.specs.Addresses.{Ipv4, Ipv6}
use Rattle.ipnet_blocks.specs.Blocks.{Block, first_of}
use Rattle.ipnet_blocks.specs.Maximal.{maximal_of}
use Rattle.ipnet.specs.IpNets.{block, network_at}
use Rattle.route_lines.specs.declared.command.Command.{Command}
use Rattle.route_lines.specs.declared.command.Command.TheVariants as C
use Rattle.route_lines.specs.declared.reply.Closing.{Closing}
use Rattle.route_lines.specs.declared.reply.Closing.TheVariants.{Done, Missing, Bad, Refused}
use Rattle.route_lines.specs.declared.reply.Reply.{Reply}
use Rattle.route_lines.specs.declared.reply.Reply.TheVariants.{Set, Unset, Route, Flat, Own, Count, Close}
use Rattle.route_choices.specs.Choices.{has_none, holds_hop, is_one_too_many}
use Rattle.route_laws.specs.Changes.{changed}
use Rattle.route_laws.specs.Flats.{Piece, blocks_of, flat_of}
use Rattle.route_laws.specs.Networks.{Stored, choices_at, routes_of, with_choice, without_choice}
use Rattle.route_laws.specs.Onwards.{count_of, routes_from, routes_after}
use Rattle.route_laws.specs.Tables as table
use Rattle.route_laws.specs.Tables.{hop_at, match_of, covering, routes_inside}

-- a reply: its lines, its closing line, and the table after it
pub record Answer : Type 0 where
  pub body : List Reply
  pub closing : Closing
  pub next : List Stored

-- the lines of a reply
abbrev pub answer_lines : Answer → List Reply
answer_lines t = t.body ++ Close t.closing ∷ []

-- a reply of only a closing line; the table is unchanged
abbrev pub closed : List Stored → Closing → Answer
closed M closing = record { body = []; closing = closing; next = M }

-- a reply of these lines and `ok`; the table is unchanged
abbrev pub listed : List Stored → List Reply → Answer
listed M lines = record { body = lines; closing = Done; next = M }

-- the line with the new hop of a block
abbrev pub change_line : Option ℕ → Block → Reply
change_line (Some number) b = Set (network_at b) number
change_line None b = Unset (network_at b)

-- the lines of a change: the maximal blocks of the addresses whose hop changes, each with its new hop
unfoldable pub change_lines : List table.Route → List table.Route → List Reply
change_lines M N = map (λ b. change_line (hop_at N (first_of b)) b) (maximal_of (changed M N))

-- the reply to a change of the table: the lines of the change and `ok`, and the new table
abbrev pub changed_to : List Stored → List Stored → Answer
changed_to M N = record { body = change_lines (routes_of M) (routes_of N); closing = Done; next = N }

-- the line of a stored route
abbrev pub route_line : table.Route → Reply
route_line r = Route (network_at r.block) r.hop (Some r.pref)

-- the line of a block of the flat list
abbrev pub flat_line : Piece → Reply
flat_line p = Flat (network_at p.block) p.number

-- whether a command may be refused because memory ran out: an `add` of a network that isn't stored, or an `own`
abbrev pub may_refuse : List Stored → Option Command → Bool
may_refuse M (Some (C.Add net hop pref)) = has_none (choices_at M (block net))
may_refuse M (Some (C.Own number)) = true
may_refuse M command = false

-- whether a command is an `add` of one hop too many: its network has eight other hops
abbrev pub is_too_many : List Stored → Option Command → Bool
is_too_many M (Some (C.Add net hop pref)) = is_one_too_many (choices_at M (block net)) hop
is_too_many M command = false

-- the reply if nothing is refused
abbrev pub accepted : List Stored → Option Command → Answer
accepted M (Some (C.Add net hop pref)) = changed_to M (with_choice M (block net) (record { hop = hop; pref = pref }))
accepted M (Some (C.Del net hop)) = if holds_hop (choices_at M (block net)) hop then changed_to M (without_choice M (block net) hop) else closed M Missing
accepted M (Some (C.Get net)) = option_map_or (λ r. listed M (route_line r ∷ [])) (match_of (routes_of M) (block net)) (closed M Missing)
accepted M (Some (C.Cover net)) = listed M (map route_line (covering (routes_of M) (block net)))
accepted M (Some (C.List net)) = listed M (map route_line (routes_inside (routes_of M) (block net)))
accepted M (Some (C.All net)) = listed M (map (λ c. Route (network_at (block net)) c.hop (Some c.pref)) (choices_at M (block net)))
accepted M (Some (C.PageFrom net limit)) = listed M (map route_line (take limit (routes_from (routes_of M) (block net))))
accepted M (Some (C.PageAfter net limit)) = listed M (map route_line (take limit (routes_after (routes_of M) (block net))))
accepted M (Some (C.Own number)) = listed M (map (λ b. Own (network_at b)) (blocks_of (filter (λ p. p.number == number) (flat_of (hop_at (routes_of M))))))
accepted M (Some C.Count) = listed M (Count (count_of Ipv4 (routes_of M)) (count_of Ipv6 (routes_of M)) ∷ [])
accepted M (Some C.Flat) = listed M (map flat_line (flat_of (hop_at (routes_of M))))
accepted M None = closed M Bad

-- the reply to one line; an `add` of one hop too many is always refused, and uses up no refusal, since its network is stored
abbrev pub step : List Stored → Option Command → Bool → Answer
step M command refused =
    if is_too_many M command then closed M Refused
    else (if may_refuse M command && refused then closed M Refused else accepted M command)
