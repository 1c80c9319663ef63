-- The edits of both families are the operations between a table and a nearest one.
use Rattle.std.proofs.Common.{◌≡◌, ℕ, ◌+◌, ◌≤◌, not, Bool, List, [], ◌++◌, filter, length, map, All, Option, None, refl, sym, ap, ap₂, ◌∙◌, subst, length-append, reverse, arith}
use Rattle.std.proofs.lemmas.List.{length-map, map-append}
use Rattle.std.proofs.lemmas.List.Elements.{filter-append}
use Rattle.ipnet_addr.specs.Addresses.{Family, Ipv4, Ipv6, Address, width}
use Rattle.ipnet_addr.proofs.Members.{In}
use Rattle.ipnet_addr.proofs.Ascending.{All-from_In, In-from_All}
use Rattle.ipnet_blocks.specs.Blocks.{family_block, is_inside}
use Rattle.least_table.specs.Orders.{IsInOrder}
use Rattle.least_table.specs.Tables as bits
use Rattle.nearest_table.specs.Changed.{MakeNearest}
use Rattle.nearest_table.specs.Edits.{blocks, installed_in}
use Rattle.least_table.specs.Nearest as near
use Rattle.nearest_table.specs.Told.{told_hop}
use Rattle.route_choices.specs.Hops.{IsHop}
use Rattle.route_choices.proofs.Kept.{In-from_filter, In-map}
use Rattle.route_laws.specs.Fewest.{GivesInside}
use Rattle.route_laws.specs.LeastTables.{HasHops}
use Rattle.route_laws.specs.Nearest.{AreUpdates}
use Rattle.route_laws.specs.Networks.{Stored, best_route, routes_of}
use Rattle.route_laws.specs.Operations.{Remove, between, installs, is_held, missing, removes, surplus}
use Rattle.route_laws.specs.Painted.{AreChanges, painted_all}
use Rattle.route_laws.specs.Tables.{Route, IsTable, hop_at, is_stored}
use Rattle.route_laws.proofs.Insides.{both_have, part_gives, rising, sound}
use Rattle.route_laws.proofs.Networks.{routes_are_table}
use Rattle.route_laws.proofs.Overwritten.{Changes, changes_from}
use Rattle.route_table.specs.Given.{AreFamilies}
use Rattle.route_table.specs.InnerLeast.{entries_of, entry_of}
use Rattle.route_table.specs.InnerFamilyTables.{IsFamilyTable, block_at}
use Rattle.route_table.specs.InnerUpdates.{MakeBoth, blocks_in, installed_route, operations_of, overwritten_all, routes_in}
use Rattle.route_table.proofs.FamilyBits.{blocks_of, family_gives, gives_bits, order_entries, table_entries}
use Rattle.route_table.proofs.NewRoutes.{new_all, new_entries, new_is_table, new_missing, new_routes, removed_blocks}
use Rattle.route_table.proofs.Overlaid.{told_bits}
use Rattle.route_table.proofs.PartBits.{bits_of, length-between, part, part_all, part_four, part_six, parts_no_more, surplus_bits}

-- the routes of a side, as bit strings
pub side_bits : (f : Family) (T : List Stored) → IsFamilyTable f T
    → bits.IsBitTable (width f) (entries_of (routes_of T)) × IsInOrder (entries_of (routes_of T))
side_bits f T side =
    let t = routes_are_table T side.table in
    let k = blocks_of f (routes_of T) t (λ r i. let u = In-map best_route T r i in ap (λ (q : Route). q.block.family) u.2
    ∙ In-from_All (λ (s : Stored). s.block.family ≡ f) T side.family u.0 u.1) in
    (table_entries f (routes_of T) k (rising (routes_of T) t), order_entries f (routes_of T) k (rising (routes_of T) t))

abbrev Edits : Type 0
Edits = List (List Bool × Option (Option ℕ))

-- what is known of the edits of each family
module _ (M C rs : List Route) (old : IsTable M) (changes : Changes rs) (told : C ≡ overwritten_all [] rs) (parts : part Ipv4 M ++ part Ipv6 M ≡ M)
    (es : Family → Edits) (made : (f : Family) → MakeNearest (width f) (bits_of f C) (bits_of f M) (es f)) (hops : (f : Family) → All (λ r. IsHop r.hop) (routes_in f (es f))) where
  abbrev hop : Address → Option ℕ
  hop = hop_at (painted_all M rs)

  -- the new table of each family
  abbrev table_in : Family → List (List Bool × Option ℕ)
  table_in f = (made f).table

  abbrev routes : Family → List Route
  routes f = new_routes f M old (table_in f) (es f) (made f).edits

  routes_all : (f : Family) (r : Route) → In r (routes f) → r.block.family ≡ f
  routes_all f = new_all f M old (table_in f) (es f) (made f).edits (near.IsNearestTable.gives (made f).nearest).table (made f).order (hops f)

  routes_entries : (f : Family) → entries_of (routes f) ≡ table_in f
  routes_entries f = new_entries f M old (table_in f) (es f) (made f).edits

  routes_give : (f : Family) → GivesInside hop (family_block f) None (routes f)
  routes_give f = family_gives f hop (told_hop (bits_of f C) (bits_of f M)) (told_bits f M C rs old changes told) (routes f)
      (new_is_table f M old (table_in f) (es f) (made f).edits (near.IsNearestTable.gives (made f).nearest).table (made f).order (hops f)) (routes_all f)
      (subst (bits.GivesHops (width f) (told_hop (bits_of f C) (bits_of f M)) None) (sym (routes_entries f)) (near.IsNearestTable.gives (made f).nearest))

  -- the new table of both
  abbrev N : List Route
  N = routes Ipv4 ++ routes Ipv6

  has : HasHops hop N
  has = both_have hop (routes Ipv4) (routes Ipv6) (routes_give Ipv4) (routes_give Ipv6)

  here : (f : Family) → part f N ≡ routes f
  here f = go f
    where
      families : AreFamilies N (routes Ipv4) (routes Ipv6)
      families = record {
        routes = refl;
        table = has.table;
        ipv4 = All-from_In (λ (r : Route). r.block.family ≡ Ipv4) (routes Ipv4) (routes_all Ipv4);
        ipv6 = All-from_In (λ (r : Route). r.block.family ≡ Ipv6) (routes Ipv6) (routes_all Ipv6);
      }

      go : (g : Family) → part g N ≡ routes g
      go Ipv4 = part_four N (routes Ipv4) (routes Ipv6) families
      go Ipv6 = part_six N (routes Ipv4) (routes Ipv6) families

  -- no table with the new hops is nearer in a family
  nearest_in : (f : Family) (L : List Route) → HasHops hop L → near.distance (bits_of f M) (table_in f) ≤ near.distance (bits_of f M) (bits_of f L)
  nearest_in f L l = near.IsNearestTable.nearest (made f).nearest (bits_of f L)
      (gives_bits f hop (told_hop (bits_of f C) (bits_of f M)) (told_bits f M C rs old changes told) (part f L) (part_all f L) (part_gives hop L l f))

  -- the routes of a family that are stored no more
  abbrev gone : Family → List Route
  gone f = filter (λ r. not (is_stored N r.block)) (part f M)

  gone_entries : (f : Family) → near.surplus_routes (bits_of f M) (table_in f) ≡ entries_of (gone f)
  gone_entries f = ap (near.surplus_routes (bits_of f M)) (sym (ap entries_of (here f) ∙ routes_entries f)) ∙ surplus_bits M N old has.table f

  removes_gone : (f : Family) → removes (gone f) ≡ map Remove (blocks_in f (es f))
  removes_gone f =
      sym (removed_blocks f (gone f) (λ r i. let j = (In-from_filter (λ q. not (is_stored N q.block)) (part f M) r i).0 in
      ((sound M old r (In-from_filter (λ q. is_inside q.block (family_block f)) M r j).0).0, part_all f M r j)))
      ∙ ap (λ t. map Remove (map (block_at f) (blocks t))) (sym (gone_entries f))
      ∙ ap (λ bs. map Remove (map (block_at f) bs)) (sym ((made f).edits.removes))

  -- the edits of a family, counted
  count_in : (f : Family) → near.distance (bits_of f M) (table_in f) ≡ length (routes_in f (es f)) + length (gone f)
  count_in f = omega (arith, length-map (installed_in (es f)) (installed_route f), ap length (made f).edits.installs, ap length (gone_entries f), length-map (gone f) entry_of)

  missing_are : missing M N ≡ routes_in Ipv4 (es Ipv4) ++ routes_in Ipv6 (es Ipv6)
  missing_are = filter-append (λ r. not (is_held M r)) (routes Ipv4) (routes Ipv6) ∙ ap₂ (λ xs ys. xs ++ ys) (lacks Ipv4) (lacks Ipv6)
    where
      lacks : (f : Family) → filter (λ r. not (is_held M r)) (routes f) ≡ routes_in f (es f)
      lacks f = new_missing f M old (table_in f) (es f) (made f).edits

  surplus_are : surplus M N ≡ gone Ipv4 ++ gone Ipv6
  surplus_are = ap (λ L. surplus L N) (sym parts) ∙ filter-append (λ r. not (is_stored N r.block)) (part Ipv4 M) (part Ipv6 M)

  operations_are : operations_of (es Ipv4) (es Ipv6) ≡ between M N
  operations_are = ap₂ (λ rs os. installs (reverse rs) ++ os) (sym missing_are)
      (map-append Remove (blocks_in Ipv4 (es Ipv4)) (blocks_in Ipv6 (es Ipv6)) ∙ ap₂ (λ xs ys. xs ++ ys) (sym (removes_gone Ipv4)) (sym (removes_gone Ipv6))
      ∙ sym (map-append (λ (r : Route). Remove r.block) (gone Ipv4) (gone Ipv6)) ∙ ap removes (sym surplus_are))

  count : length (between M N) ≡ near.distance (bits_of Ipv4 M) (table_in Ipv4) + near.distance (bits_of Ipv6 M) (table_in Ipv6)
  count =
      let m = ap length missing_are ∙ length-append (routes_in Ipv4 (es Ipv4)) (routes_in Ipv6 (es Ipv6)) in
      let s = ap length surplus_are ∙ length-append (gone Ipv4) (gone Ipv6) in
      omega (arith, length-between M N, m, s, count_in Ipv4, count_in Ipv6)

  updates : AreUpdates M rs (operations_of (es Ipv4) (es Ipv6))
  updates = record {
    table = N;
    nearest = record { hops = has; nearest = λ L l. omega (arith, count, nearest_in Ipv4 L l, nearest_in Ipv6 L l, parts_no_more M L old l.table) };
    operations = operations_are;
  }

-- the edits that nearest tables of both families need lead to a nearest table with the hops after the changes
pub are_updates : {M M4 M6 : List Route} (rs : List Route) (es4 es6 : Edits) → AreFamilies M M4 M6 → AreChanges rs → MakeBoth (overwritten_all [] rs) M es4 es6
    → All (λ r. IsHop r.hop) (routes_in Ipv4 es4) → All (λ r. IsHop r.hop) (routes_in Ipv6 es6) → AreUpdates M rs (operations_of es4 es6)
are_updates {M} {M4} {M6} rs es4 es6 m changes both hops4 hops6 =
    updates M (overwritten_all [] rs) rs m.table (changes_from rs changes) refl (ap₂ (λ xs ys. xs ++ ys) (part_four M M4 M6 m) (part_six M M4 M6 m) ∙ m.routes) es made hops
  where
    es : Family → Edits
    es Ipv4 = es4
    es Ipv6 = es6

    made : (f : Family) → MakeNearest (width f) (bits_of f (overwritten_all [] rs)) (bits_of f M) (es f)
    made Ipv4 = both.ipv4.made
    made Ipv6 = both.ipv6.made

    hops : (f : Family) → All (λ r. IsHop r.hop) (routes_in f (es f))
    hops Ipv4 = hops4
    hops Ipv6 = hops6
