-- The knowledge of a follower that has read any beginning of a leader's output.
use Rattle.std.specs.Prelude.{◌≡◌, ◌≢◌, ◌↔◌, ◌<◌, ◌^◌, ℕ, Bool, List, [], ◌∷◌, ◌++◌, All, Option, Some, None, map, take, length}
use Rattle.std.specs.List.{AllZip, flat_map}
use Rattle.ipnet_addr.specs.Addresses.{Address, IsAddress}
use Rattle.ipnet_blocks.specs.Blocks.{Block, HasAddress, IsBlock}
use Rattle.ipnet_blocks.specs.Maximal.{IsMaximal}
use Rattle.ipnet.specs.IpNets.{block}
use Rattle.route_lines.specs.Bytes.{lines, rest}
use Rattle.route_lines.specs.declared.command.Command.{Command}
use Rattle.route_lines.specs.declared.command.Command.TheVariants as C
use Rattle.route_lines.specs.declared.reply.Closing.TheVariants.{Done}
use Rattle.route_lines.specs.declared.reply.Reply.{Reply}
use Rattle.route_lines.specs.declared.reply.Reply.TheVariants.{Close}
use Rattle.route_choices.specs.Choices.{AreChoices, Choice, default_preference}
use Rattle.route_choices.specs.Hops.{IsHop}
use Rattle.route_laws.specs.Changes.{route_for}
use Rattle.route_laws.specs.Flats.{flat_of}
use Rattle.route_laws.specs.LeastTables.{HasHops, IsLeast}
use Rattle.route_laws.specs.Networks.{Stored, IsStoredTable, routes_of, with_choices}
use Rattle.route_laws.specs.Tables.{Changed, Route, IsTable, hop_at}
use Rattle.route_feed.specs.AddLines.{add_lines}
use Rattle.route_feed.specs.Follows.{AreReplies, followed}
use Rattle.route_feed.specs.Replies.{printed}
use Rattle.route_feed.specs.Steps.{change_line, change_lines, flat_line}
use Rattle.route_feed.specs.Shortens.{IsLeastFor}
use Rattle.route_feed.specs.Output.{replies, table_after, whole_commands, at_end, output}
use Rattle.route_feed.specs.Streams.{closings, committed, painted_hop, replies_in}

-- ---- by values

-- a command that changes the table or asks for all routes of a network has a network, and an `add` a hop and a preference, in range
abbrev pub IsInRange : Option Command → Type 0
IsInRange (Some (C.Add net hop pref)) = IsBlock (block net) × IsHop hop × (pref < 2 ^ 16)
IsInRange (Some (C.Del net hop)) = IsBlock (block net)
IsInRange (Some (C.All net)) = IsBlock (block net)
IsInRange command = Unit {0}

-- the changes of any first reply lines give each address its hop in the table after as many commands as there are closing lines
abbrev pub LinesAgree : Type 0
LinesAgree = (commands : List (Option Command)) (refusals : List Bool) (front back : List Reply) → All IsInRange commands
    → replies [] commands refusals ≡ front ++ back
    → (x : Address) → IsAddress x → painted_hop (committed front) x ≡ hop_at (routes_of (table_after [] (take (closings front) commands) refusals)) x

-- the lines of a change: the maximal blocks of the addresses whose hop changes, each with the hop that all its addresses have then
abbrev pub AreChangeLines : List Route → List Route → List Reply → Type 0
AreChangeLines M N ls = (bs : List Block) × IsMaximal (Changed M N) bs × AllZip (λ b line. (x : Address) → HasAddress b x → line ≡ change_line (hop_at N x) b) bs ls

-- such are the lines of a change of one network's routes, and no others
abbrev pub ChangesHaveOneHop : Type 0
ChangesHaveOneHop = (M : List Stored) (b : Block) (cs : List Choice) (ls : List Reply) → IsStoredTable M → IsBlock b → AreChoices cs
    → (ls ≡ change_lines (routes_of M) (routes_of (with_choices M b cs))) ↔ AreChangeLines (routes_of M) (routes_of (with_choices M b cs)) ls

-- ---- in bytes

-- the bytes are these pieces, each with a line end, and then the last piece; there is no other line end
pub record IsSplit (bytes : List ℕ) (pieces : List (List ℕ)) (last : List ℕ) : Type 0 where
  pub made : bytes ≡ flat_map (λ piece. piece ++ 10 ∷ []) pieces ++ last
  pub clean : All (λ piece. All (λ c. c ≢ 10) piece) pieces
  pub ended : All (λ c. c ≢ 10) last

-- such are the lines of the bytes with their rest, and no others
abbrev pub SplitIsLines : Type 0
SplitIsLines = (bytes : List ℕ) (pieces : List (List ℕ)) (last : List ℕ) → IsSplit bytes pieces last ↔ ((pieces ≡ lines bytes) × (last ≡ rest bytes))

-- the commands that bytes spell are in range
abbrev pub CommandsAreInRange : Type 0
CommandsAreInRange = (bytes : List ℕ) → All IsInRange (whole_commands bytes ++ at_end (rest bytes))

-- the reply lines in a beginning of the output have the committed changes of some first reply lines, and as many closing lines
abbrev pub BeginningsAreLines : Type 0
BeginningsAreLines = (bytes front back : List ℕ) (refusals : List Bool) → output bytes refusals ≡ front ++ back
    → (first : List Reply) × (later : List Reply) × (replies [] (whole_commands bytes ++ at_end (rest bytes)) refusals ≡ first ++ later)
    × (committed (replies_in front) ≡ committed first) × (closings (replies_in front) ≡ closings first)

-- the leader's table after as many of its commands as there are complete replies in this beginning of the output
abbrev pub table_told : List ℕ → List Bool → List ℕ → List Stored
table_told bytes refusals front = table_after [] (take (closings (replies_in front)) (whole_commands bytes ++ at_end (rest bytes))) refusals

-- a follower of any beginning of the output has the same hop for each address as this table
abbrev pub BeginningsAgree : Type 0
BeginningsAgree = (bytes front back : List ℕ) (refusals : List Bool) → output bytes refusals ≡ front ++ back
    → (x : Address) → IsAddress x → painted_hop (committed (replies_in front)) x ≡ hop_at (routes_of (table_told bytes refusals front)) x

-- so a follower of any beginning of the output has the flat list of that table
abbrev pub FlatListsAgree : Type 0
FlatListsAgree = (bytes front back : List ℕ) (refusals : List Bool) → output bytes refusals ≡ front ++ back
    → flat_of (painted_hop (committed (replies_in front))) ≡ flat_of (hop_at (routes_of (table_told bytes refusals front)))

-- each line of the input, and the rest if there is one, has a reply that ends with one closing line
abbrev pub AllAreAnswered : Type 0
AllAreAnswered = (bytes : List ℕ) (refusals : List Bool) → closings (replies_in (output bytes refusals)) ≡ length (whole_commands bytes ++ at_end (rest bytes))

-- the output of `flat` for a table
abbrev pub flat_bytes : List Route → List ℕ
flat_bytes M = printed (map flat_line (flat_of (hop_at M)) ++ Close Done ∷ [])

-- a follower of the whole output prints the flat list of the leader's last table
abbrev pub OutputIsFollowed : Type 0
OutputIsFollowed = (bytes : List ℕ) (refusals : List Bool)
    → followed (output bytes refusals) ≡ flat_bytes (routes_of (table_after [] (whole_commands bytes ++ at_end (rest bytes)) refusals))

-- two tables print the same bytes exactly if all their hops are the same
abbrev pub SameFlatBytes : Type 0
SameFlatBytes = (M N : List Route) → IsTable M → IsTable N → (flat_bytes M ≡ flat_bytes N) ↔ ((x : Address) → IsAddress x → hop_at M x ≡ hop_at N x)

-- each line of a beginning of the output is a reply line, if the input has fewer than 2^64 bytes, as every input has
abbrev pub BeginningsAreReplies : Type 0
BeginningsAreReplies = (bytes front back : List ℕ) (refusals : List Bool) → length bytes < 2 ^ 64 → output bytes refusals ≡ front ++ back → AreReplies (lines front)

-- the table of a leader that is given these bytes and never runs out of memory
abbrev pub table_given : List ℕ → List Stored
table_given bytes = table_after [] (whole_commands bytes ++ at_end (rest bytes)) []

-- a network with one route, with the hop of this route and the default preference
abbrev pub alone : Route → Stored
alone r = record { block = r.block; choices = record { hop = r.hop; pref = default_preference } ∷ [] }

-- a leader that is given the lines of a table's routes has these networks with these hops, and no others
abbrev pub LinesRebuild : Type 0
LinesRebuild = (N : List Route) → IsTable N → table_given (add_lines N) ≡ map alone N

-- so a leader that is given the lines of a table's routes has the same hops
abbrev pub LinesKeepHops : Type 0
LinesKeepHops = (h : Address → Option ℕ) (N : List Route) → HasHops h N → HasHops h (routes_of (table_given (add_lines N)))

-- and the lines of a least table make a least table
abbrev pub LinesStayLeast : Type 0
LinesStayLeast = (h : Address → Option ℕ) (N : List Route) → IsLeast h N → IsLeast h (routes_of (table_given (add_lines N)))

-- a leader that is given the lines of a least table for a beginning of another leader's output has the hops that this one had there
abbrev pub ShortenedAgree : Type 0
ShortenedAgree = (bytes front back : List ℕ) (refusals : List Bool) (N : List Route) → output bytes refusals ≡ front ++ back → IsLeastFor front N
    → (x : Address) → IsAddress x → hop_at (routes_of (table_given (add_lines N))) x ≡ hop_at (routes_of (table_told bytes refusals front)) x

-- a leader that is given the line `add NET HOP` for each line of a follower's flat list has the follower's hops
abbrev pub RestartedAgree : Type 0
RestartedAgree = (bytes front back : List ℕ) (refusals : List Bool) → output bytes refusals ≡ front ++ back
    → (x : Address) → IsAddress x → hop_at (routes_of (table_given (add_lines (map route_for (flat_of (painted_hop (committed (replies_in front)))))))) x ≡ hop_at (routes_of (table_told bytes refusals front)) x

-- the tables of a leader are valid tables of networks
abbrev pub ToldIsTable : Type 0
ToldIsTable = (bytes front : List ℕ) (refusals : List Bool) → IsStoredTable (table_told bytes refusals front)

-- if no address has a hop, there are no lines
abbrev pub NoHopsNoLines : Type 0
NoHopsNoLines = (bytes : List ℕ) (N : List Route) → ((x : Address) → IsAddress x → painted_hop (committed (replies_in bytes)) x ≡ None) → IsLeastFor bytes N → add_lines N ≡ []
