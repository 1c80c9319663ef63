-- A leader that is given the lines that add the routes of a table, as of a least table or of a flat list.
use Rattle.std.proofs.Common.{◌≡◌, ◌≤◌, inl, inr, ⊎_elim, Bool, false, List, [], ◌∷◌, ◌++◌, length, map, Some, refl, sym, ap, ◌∙◌, subst, append_assoc, append-nil, arith, take, Option, get_or, ℕ, codes, All, ap₂, flat_map}
use Rattle.route_table.proofs.FamilyMap.{no_networks}
use Rattle.std.proofs.lemmas.Simd.{map-map}
use Rattle.std.proofs.lemmas.List.{length-map}
use Rattle.std.proofs.lemmas.List.Elements.{All-head, All-tail, All-take, All-weaker}
use Rattle.ipnet_addr.proofs.Members.{In, In-cases}
use Rattle.ipnet_addr.proofs.Ascending.{In-from_All, Rising, Rising-from_pairs, All-from_In}
use Rattle.ipnet_blocks.specs.Blocks.{IsBlock, IsBefore}
use Rattle.ipnet.proofs.Spelled.{net_reads}
use Rattle.ipnet.specs.IpNets.{network_at, block, family, parts}
use Rattle.route_lines.specs.CommandText.{command_text}
use Rattle.route_lines.specs.Spelled.{command_of}
use Rattle.route_lines.specs.Texts.{IsCommand, hop_text}
use Rattle.route_lines.proofs.Commands.{commands}
use Rattle.route_lines.proofs.PrintedCommands.{prints}
use Rattle.route_choices.specs.Choices.{Choice, default_preference, is_one_too_many}
use Rattle.route_choices.specs.Hops.{IsHop}
use Rattle.route_laws.specs.LeastTables.{HasHops, routes_for}
use Rattle.route_laws.specs.Networks.{Stored, best_route, choices_at, routes_of, with_choice, IsStoredTable}
use Rattle.route_laws.specs.Tables.{Route, IsTable, hop_at}
use Rattle.route_laws.proofs.NetworksAt.{of_network_at}
use Rattle.route_laws.proofs.FlatTables.{added_last, hops_same, none_at, preferring, preferring_table, flat_is_table, hops_of_table}
use Rattle.route_laws.proofs.Networks.{routes_are_table}
use Rattle.route_feed.specs.AddLines.{add_lines}
use Rattle.route_feed.specs.Laws.{LinesKeepHops, LinesRebuild, LinesStayLeast, NoHopsNoLines, ShortenedAgree, alone, table_given, RestartedAgree, ToldIsTable, table_told, IsInRange}
use Rattle.route_feed.specs.Output.{at_end, table_after, refusals_after}
use Rattle.route_feed.specs.Steps.{Answer, is_too_many, may_refuse, step}
use Rattle.route_feed.specs.Streams.{committed, painted_hop, replies_in, closings}
use Rattle.route_feed.specs.Lines.{HaveNoHostBits, add_command, command_line}
use Rattle.route_feed.proofs.Beginnings.{beginnings_agree, commands_of, flat_lists_agree, commands_are_in_range}
use Rattle.route_feed.proofs.PrintedLines.{is_cut, word_hop, HasNoEnd, text_lines}
use Rattle.route_feed.proofs.ReadLines.{of_commands, read_is}
use Rattle.route_feed.proofs.AnsweredChanges.{plain_step}
use Rattle.route_laws.specs.Changes.{route_for}
use Rattle.route_laws.specs.Flats.{flat_of}
use Rattle.route_laws.proofs.Flats.{search_is_flat}
use Rattle.route_lines.specs.declared.command.Command.{Command}
use Rattle.route_feed.proofs.Replies.{form_step}
use Rattle.route_table.proofs.BetweenSteps.{network_is}
use Rattle.ipnet.specs.IpNetText.{net_text}
use Rattle.ipnet.specs.declared.ip_net.IpNet.{IpNet}
use Rattle.ipnet_blocks.specs.Networks.{IsTruncated}
use Rattle.route_lines.specs.declared.command.Command.TheVariants.{Add}
use Rattle.route_choices.specs.declared.hop.Hop.{Hop}
use Rattle.route_lines.proofs.Cutting.{with_end}
use Rattle.route_choices.proofs.Kept.{map_same}
use Rattle.route_feed.proofs.Carried.{either}

-- ---- the lines

-- the line of a command that adds a hop with the default preference
line_is : (net : IpNet) (hop : Hop)
    → codes "add " ++ net_text net ++ codes " " ++ hop_text hop ++ codes "\n" ≡ command_line (Add net hop default_preference)
line_is net hop = ap (λ t. t ++ codes "\n") (sym (append-nil (codes "add " ++ net_text net ++ codes " " ++ hop_text hop)))

-- the bytes of the lines that add routes
abbrev pub add_bytes : List (IpNet × Hop) → List ℕ
add_bytes routes = add_lines (routes_for routes)

-- the line of the first route, which is printed without host bits, and the routes after it
pub next_add : (routes : List (IpNet × Hop)) (net : IpNet) (hop : Hop) (left : List (IpNet × Hop))
    → routes ≡ (net, hop) ∷ left → HaveNoHostBits routes
    → (add_bytes routes ≡ command_line (Add net hop default_preference) ++ add_bytes left)
    × HaveNoHostBits left × (net ≡ network_at (block net))
next_add routes net hop left e cut =
    let is_cut = λ (r : IpNet × Hop). IsTruncated (family r.0) (parts r.0) in
    let all = subst HaveNoHostBits e cut in
    let is = network_is net (All-head is_cut (net, hop) left all) in
    let line = line_is (network_at (block net)) hop ∙ ap (λ n. command_line (Add n hop default_preference)) (sym is) in
    (ap add_bytes e ∙ ap (λ t. t ++ add_bytes left) line, All-tail is_cut (net, hop) left all, is)

abbrev line : Route → List ℕ
line r = command_text (add_command r)

abbrev Spells : Route → Type 0
Spells r = IsCommand (line r) (add_command r)

lines_spell : (N : List Route) → IsTable N → All Spells N
lines_spell N n = All-from_In Spells N (λ r i.
    let hop = In-from_All (λ s. IsHop s.hop) N n.hops r i in
    let is_block = In-from_All (λ s. IsBlock s.block) N n.blocks r i in
    prints (add_command r) (is_cut r.block) (net_reads r.block is_block, word_hop r.hop hop, omega arith))

given_is : (N : List Route) → IsTable N → commands_of (add_lines N) ≡ map (λ r. Some (add_command r)) N
given_is N n =
    let spells = lines_spell N n in
    let bytes : add_lines N ≡ flat_map (λ r. with_end (line r)) N = λ i. flat_map (λ r. line_is (network_at r.block) r.hop i) N in
    let clean = All-weaker Spells (λ r. HasNoEnd (line r)) (λ r. commands.clean (line r) (add_command r)) N spells in
    let (pieces, none) = text_lines line N clean in
    ap commands_of bytes
    ∙ ap₂ (λ ps bs. map command_of ps ++ at_end bs) (sym pieces) (sym none)
    ∙ append-nil (map command_of (map line N))
    ∙ map-map command_of line N
    ∙ map_same (λ r. command_of (line r)) (λ r. Some (add_command r)) N
    (λ r i. read_is of_commands (line r) (add_command r) (In-from_All Spells N spells r i))

-- ---- the table

-- a network that comes after all stored ones is added at the end
added : (T : List Stored) (r : Route) → ((s : Stored) → In s T → IsBefore s.block r.block) → (step T (Some (add_command r)) false).next ≡ T ++ alone r ∷ []
added T r after =
    let c : Choice = record { hop = r.hop; pref = default_preference } in
    let room : is_too_many T (Some (add_command r)) ≡ false =
    ap (λ b. is_one_too_many (choices_at T b) r.hop) (of_network_at r.block) ∙ ap (λ cs. is_one_too_many cs r.hop) (none_at T r.block after) in
    ap Answer.next (plain_step T (Some (add_command r)) room) ∙ ap (λ b. with_choice T b c) (of_network_at r.block) ∙ added_last T r.block after c

all_added : (N : List Route) (T : List Stored) → Rising (λ r s. IsBefore r.block s.block) N → ((s : Stored) (r : Route) → In s T → In r N → IsBefore s.block r.block)
    → table_after T (map (λ r. Some (add_command r)) N) [] ≡ T ++ map alone N
all_added [] T up before = sym (append-nil T)
all_added (r ∷ N) T up before =
    let command = Some (add_command r) in
    let later = map (λ s. Some (add_command s)) N in
    ap (table_after (step T command false).next later) (either (may_refuse T command) [])
    ∙ ap (λ U. table_after U later []) (added T r (λ s i. before s r i (inl refl)))
    ∙ all_added N (T ++ alone r ∷ []) up.1 (λ s q i j.
    ⊎_elim (λ k. before s q k (inr j)) (λ k. ⊎_elim (λ e. subst (λ (t : Stored). IsBefore t.block q.block) (sym e) (up.0 q j)) (λ none. absurd none) k) (In-cases s T (alone r ∷ []) i))
    ∙ append_assoc T (alone r ∷ []) (map alone N)

pub lines_rebuild : LinesRebuild
lines_rebuild N n =
    ap (λ cs. table_after [] cs []) (given_is N n)
    ∙ all_added N [] (Rising-from_pairs (λ r s. IsBefore r.block s.block) N n.ascending) (λ s r i. absurd i)

-- its best routes are those of the table, with the default preference
best_are : (N : List Route) → IsTable N → routes_of (table_given (add_lines N)) ≡ map (preferring default_preference) N
best_are N n = ap routes_of (lines_rebuild N n) ∙ map-map best_route alone N

pub lines_keep_hops : LinesKeepHops
lines_keep_hops h N has = subst (HasHops h) (sym (best_are N has.table)) (record {
  table = preferring_table default_preference N has.table;
  same = λ x a. hops_same default_preference N x ∙ has.same x a;
})

pub lines_stay_least : LinesStayLeast
lines_stay_least h N least = record {
  hops = lines_keep_hops h N least.hops;
  fewest = λ L has. omega (arith, least.fewest L has, ap length (best_are N least.hops.table), length-map N (preferring default_preference));
}

pub shortened_agree : ShortenedAgree
shortened_agree bytes front back refusals N e least x a =
    (lines_keep_hops (painted_hop (committed (replies_in front))) N least.hops).same x a ∙ beginnings_agree bytes front back refusals e x a

no_routes : (N : List Route) → length N ≤ 0 → N ≡ []
no_routes [] h = refl
no_routes (r ∷ N) h = absurd (omega (arith, h))

pub no_hops_no_lines : NoHopsNoLines
no_hops_no_lines bytes N none least = ap add_lines (no_routes N (least.fewest [] (record { table = routes_are_table [] no_networks; same = λ x a. sym (none x a) })))

-- ---- a flat list

-- a table of networks stays one after any commands
after_is : (M : List Stored) (commands : List (Option Command)) (r : List Bool) → IsStoredTable M → All IsInRange commands → IsStoredTable (table_after M commands r)
after_is M [] r m h = m
after_is M (c ∷ cs) r m h =
    let form = form_step M m c (get_or r 0 false) (All-head IsInRange c cs h) in
    after_is (step M c (get_or r 0 false)).next cs (refusals_after M c r) form.table (All-tail IsInRange c cs h)

pub told_is_table : ToldIsTable
told_is_table bytes front refusals =
    let n = closings (replies_in front) in
    let range = All-take IsInRange n (commands_of bytes) (commands_are_in_range bytes) in
    after_is [] (take n (commands_of bytes)) refusals no_networks range

pub restarted_agree : RestartedAgree
restarted_agree bytes front back refusals e x a =
    let M = routes_of (table_told bytes refusals front) in
    let flat = flat_is_table (hop_at M) (flat_of (hop_at M)) (hops_of_table M (routes_are_table (table_told bytes refusals front) (told_is_table bytes front refusals))) (search_is_flat (hop_at M)) in
    ap (λ ps. hop_at (routes_of (table_given (add_lines (map route_for ps)))) x) (flat_lists_agree bytes front back refusals e)
    ∙ (lines_keep_hops (hop_at M) (map route_for (flat_of (hop_at M))) flat).same x a
