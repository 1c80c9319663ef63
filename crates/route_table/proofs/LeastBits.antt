-- Tables of one family as tables over bit strings.
use Rattle.std.proofs.Common.{◌≡◌, ℕ, ◌^◌, ◌<◌, ◌≤◌, Bool, IsTrue, inl, inr, List, [], ◌∷◌, ◌++◌, length, All, AllPairs, IfOk, IfSome, Result, Ok, Err, Option, None, refl, sym, ap, ◌∙◌, subst, Less, arith}
use Rattle.std.proofs.lemmas.List.{map-append, length-map}
use Rattle.std.proofs.lemmas.List.Elements.{All-append, All-map}
use Rattle.ipnet.proofs.IpNetworks.{net_family}
use Rattle.ipnet_addr.specs.Addresses.{Family, Ipv4, Ipv6, Address, width}
use Rattle.ipnet_addr.proofs.Members.{In}
use Rattle.ipnet_addr.proofs.Ascending.{In-from_All, All-from_In, Rising, Rising-from_pairs}
use Rattle.ipnet_blocks.specs.BitStrings.{bits_cmp}
use Rattle.ipnet_blocks.specs.Blocks.{Block, IsBlock, bit_string, family_block}
use Rattle.ipnet_blocks.specs.Networks.{Network, IsTruncated}
use Rattle.ipnet.specs.IpNets.{block, family, parts, net_in, network_at}
use Rattle.ipnet.specs.declared.ip_net.IpNet.{IpNet}
use Rattle.least_table.specs.Orders.{ComesBeforeAll, IsInOrder}
use Rattle.least_table.specs.Pieces.{piece_hop, strings}
use Rattle.least_table.specs.Tables as bits
use Rattle.trie_core.specs.Bits.{number_from}
use Rattle.route_choices.specs.Choices.{default_preference}
use Rattle.route_choices.specs.Hops.{IsHop, hop_from}
use Rattle.route_choices.specs.declared.hop.Hop.{Hop}
use Rattle.route_choices.proofs.Kept.{In-map, map_In}
use Rattle.route_laws.specs.Fewest.{GivesInside, IsFewest}
use Rattle.route_table.specs.InnerLeast.{ArePieces, AreLeast, entry_of, entries_of, least_items}
use Rattle.route_table.specs.InnerFamilyTables.{block_at}
use Rattle.route_laws.specs.LeastTables.{IsLeast, routes_for}
use Rattle.route_laws.specs.Tables.{Route, IsTable, route_of}
use Rattle.route_laws.proofs.Insides.{least_of_families, number_from_hop, fits_hop, table_of}
use Rattle.route_table.proofs.BetweenSteps.{is_truncated}
use Rattle.route_table.proofs.FamilyBits.{AllOf, all_inside, family_gives, gives_bits, lengths, rising_entries}
use Rattle.route_laws.proofs.NetworksAt.{of_network_at}
use Rattle.route_table.proofs.Strings.{string_of_block, block_at_is_block}
use Rattle.route_table.proofs.Walked.{network_of_key}

-- ---- from blocks to bit strings

module _ (f : Family) (h : Address → Option ℕ) (ps : List (List Bool × ℕ)) (pieces : ArePieces f h ps) (N : List Route) (t : IsTable N) (all : AllOf f N) (least : bits.IsLeastTable (width f) (piece_hop ps) (entries_of N)) where
  pub least_gives : GivesInside h (family_block f) None N
  least_gives = family_gives f h (piece_hop ps) pieces.same N t all least.gives

  pub family_fewest : IsFewest h (family_block f) None (length N)
  family_fewest = record {
    reached = (N, least_gives, refl);
    least = λ L g. omega (arith, length-map N entry_of, length-map L entry_of, least.fewest (entries_of L) (gives_bits f h (piece_hop ps) pieces.same L (all_inside f h (piece_hop ps) pieces.same L g) g));
  }

-- ---- networks of one family as keys, as routes

abbrev IsLess : List Bool × Option ℕ → List Bool × Option ℕ → Type 0
IsLess r s = bits_cmp r.0 s.0 ≡ Less

in_order : (t : List (List Bool × Option ℕ)) → Rising IsLess t → IsInOrder t
in_order [] up = tt
in_order (r ∷ t) up = (before_all t up.0, in_order t up.1)
  where
    before_all : (u : List (List Bool × Option ℕ)) → ((s : List Bool × Option ℕ) → In s u → IsLess r s) → ComesBeforeAll r.0 u
    before_all [] h = tt
    before_all (s ∷ u) h = (h s (inl refl), before_all u (λ v i. h v (inr i)))

module _ (f : Family) {K : Type 0} (bits_in : K → List Bool) (of_bits : List Bool → K) (parts_in : K → Network) (parts_are : (s : List Bool) → parts_in (of_bits s) ≡ record { number = number_from (width f) s; len = length s }) where
  -- the route of a key
  abbrev route_for : K × Option ℕ → Route
  route_for r = route_of (net_in f (parts_in r.0)) (hop_from r.1) default_preference

  abbrev AtBlock : K × Option ℕ → Type 0
  AtBlock r = (length (bits_in r.0) ≤ width f) × (net_in f (parts_in r.0) ≡ network_at (block_at f (bits_in r.0)))

  block_is : (r : K × Option ℕ) → AtBlock r → block (net_in f (parts_in r.0)) ≡ block_at f (bits_in r.0)
  block_is r a = ap block a.1 ∙ of_network_at (block_at f (bits_in r.0))

  In-routes : (xs : List (K × Option ℕ)) (q : Route) → In q (routes_for (least_items f parts_in xs)) → (r : K × Option ℕ) × In r xs × (q ≡ route_for r)
  In-routes xs q i =
      let t = In-map (λ (u : IpNet × Hop). route_of u.0 u.1 default_preference) (least_items f parts_in xs) q i in
      let u = In-map (λ (r : K × Option ℕ). (net_in f (parts_in r.0), hop_from r.1)) xs t.0 t.1 in
      (u.0, u.1, t.2 ∙ ap (λ (v : IpNet × Hop). route_of v.0 v.1 default_preference) u.2)

  entries_are : (xs : List (K × Option ℕ)) → ((r : K × Option ℕ) → In r xs → AtBlock r) → entries_of (routes_for (least_items f parts_in xs)) ≡ strings bits_in xs
  entries_are [] ok = refl
  entries_are (x ∷ xs) ok =
      let e : bit_string (block (net_in f (parts_in x.0))) ≡ bits_in x.0 = ap bit_string (block_is x (ok x (inl refl))) ∙ string_of_block f (bits_in x.0) in
      let k = number_from_hop x.1 in
      let t = entries_are xs (λ r i. ok r (inr i)) in
      λ i. (e i, k i) ∷ t i

  module _ (fits : K → Bool) (w : ℕ) (wide : w ≡ width f) (ps : List (List Bool × ℕ)) (table : List (K × Option ℕ))
      (networks : All (λ r. IsTrue (fits r.0) × (r.0 ≡ of_bits (bits_in r.0)) × IfSome r.1 (λ n. n < 2 ^ 32)) table)
      (ordered : AllPairs (λ r s. bits_cmp r.0 s.0 ≡ Less) (strings bits_in table))
      (least : bits.IsLeastTable w (piece_hop ps) (strings bits_in table)) where
    least' : bits.IsLeastTable (width f) (piece_hop ps) (strings bits_in table)
    least' = subst (λ v. bits.IsLeastTable v (piece_hop ps) (strings bits_in table)) wide least

    sound_at : (r : K × Option ℕ) → In r table → IsTrue (fits r.0) × (r.0 ≡ of_bits (bits_in r.0)) × IfSome r.1 (λ n. n < 2 ^ 32)
    sound_at r i = In-from_All (λ (q : K × Option ℕ). IsTrue (fits q.0) × (q.0 ≡ of_bits (bits_in q.0)) × IfSome q.1 (λ n. n < 2 ^ 32)) table networks r i

    ok : (r : K × Option ℕ) → In r table → AtBlock r
    ok r i =
        let l = lengths (width f) (strings bits_in table) (least'.gives).table (bits_in r.0, r.1) (map_In (λ (q : K × Option ℕ). (bits_in q.0, q.1)) table r i) in
        (l, network_of_key f bits_in of_bits parts_in parts_are r.0 (sound_at r i).1 l)

    sound_routes : (q : Route) → In q (routes_for (least_items f parts_in table)) → (IsBlock q.block × (q.block.family ≡ f)) × IsHop q.hop
    sound_routes q i =
        let t = In-routes table q i in
        let r = t.0 in
        subst (λ (v : Route). (IsBlock v.block × (v.block.family ≡ f)) × IsHop v.hop) (sym t.2)
        ((subst (λ (b : Block). IsBlock b × (b.family ≡ f)) (sym (block_is r (ok r t.1))) (block_at_is_block f (bits_in r.0) (ok r t.1).0, refl)), fits_hop r.1 (sound_at r t.1).2)

    pub are_least : AreLeast f ps (least_items f parts_in table)
    are_least = record {
      table = table_of (routes_for (least_items f parts_in table)) (λ q i. ((sound_routes q i).0.0, (sound_routes q i).1))
          (rising_entries f (routes_for (least_items f parts_in table)) (λ q i. (sound_routes q i).0)
          (subst IsInOrder (sym (entries_are table ok)) (in_order (strings bits_in table) (Rising-from_pairs IsLess (strings bits_in table) ordered))));
      in_family = each (λ u. family u.0 ≡ f) (λ r i. net_family f (parts_in r.0));
      truncated = each (λ u. IsTruncated (family u.0) (parts u.0)) (λ r i. is_truncated (net_in f (parts_in r.0)) ((ok r i).1 ∙ ap network_at (sym (block_is r (ok r i)))));
      least = subst (λ (t : List (List Bool × Option ℕ)). bits.IsLeastTable (width f) (piece_hop ps) t) (sym (entries_are table ok)) least';
    }
      where
        each : (Q : IpNet × Hop → Type 0) → ((r : K × Option ℕ) → In r table → Q (net_in f (parts_in r.0), hop_from r.1)) → All Q (least_items f parts_in table)
        each Q h = All-map Q (λ (r : K × Option ℕ). (net_in f (parts_in r.0), hop_from r.1)) table (All-from_In (λ (r : K × Option ℕ). Q (net_in f (parts_in r.0), hop_from r.1)) table h)

  -- for all pieces of which this is said
  pub results_are_least : (fits : K → Bool) (w : ℕ) → w ≡ width f → (Q : List (List Bool × ℕ) → Type 0) {E : Type 0} (result : Result (List (K × Option ℕ)) E)
      → IfOk result (λ table. All (λ r. IsTrue (fits r.0) × (r.0 ≡ of_bits (bits_in r.0)) × IfSome r.1 (λ n. n < 2 ^ 32)) table)
      → IfOk result (λ table. AllPairs (λ r s. bits_cmp r.0 s.0 ≡ Less) (strings bits_in table)) → IfOk result (λ table. (ps : List (List Bool × ℕ)) → Q ps → bits.IsLeastTable w (piece_hop ps) (strings bits_in table))
      → IfOk result (λ table. (ps : List (List Bool × ℕ)) → Q ps → AreLeast f ps (least_items f parts_in table))
  results_are_least fits w wide Q (Ok table) networks ordered least = λ ps q. are_least fits w wide ps table networks ordered (least ps q)
  results_are_least fits w wide Q (Err e) networks ordered least = tt

-- ---- both families

-- routes of one family that are a least table there
family_routes : (f : Family) (rs : List (IpNet × Hop)) → All (λ r. family r.0 ≡ f) rs → AllOf f (routes_for rs)
family_routes f rs all q i =
    let t = In-map (λ (r : IpNet × Hop). route_of r.0 r.1 default_preference) rs q i in
    ap (λ (r : Route). Block.family r.block) t.2 ∙ In-from_All (λ (r : IpNet × Hop). family r.0 ≡ f) rs all t.0 t.1

pub least_of_both : (h : Address → Option ℕ) {ps qs : List (List Bool × ℕ)} (ns ms : List (IpNet × Hop)) → AreLeast Ipv4 ps ns → AreLeast Ipv6 qs ms → ArePieces Ipv4 h ps → ArePieces Ipv6 h qs → IsLeast h (routes_for (ns ++ ms))
least_of_both h {ps} {qs} ns ms v4 v6 pieces4 pieces6 =
    let A = family_routes Ipv4 ns v4.in_family in
    let B = family_routes Ipv6 ms v6.in_family in
    rw (map-append (λ (r : IpNet × Hop). route_of r.0 r.1 default_preference) ns ms) (least_of_families h (routes_for ns) (routes_for ms)
    (least_gives Ipv4 h ps pieces4 (routes_for ns) v4.table A v4.least) (least_gives Ipv6 h qs pieces6 (routes_for ms) v6.table B v6.least)
    (family_fewest Ipv4 h ps pieces4 (routes_for ns) v4.table A v4.least) (family_fewest Ipv6 h qs pieces6 (routes_for ms) v6.table B v6.least))

pub truncated_of_both : {ps qs : List (List Bool × ℕ)} (ns ms : List (IpNet × Hop)) → AreLeast Ipv4 ps ns → AreLeast Ipv6 qs ms → All (λ r. IsTruncated (family r.0) (parts r.0)) (ns ++ ms)
truncated_of_both ns ms v4 v6 = All-append (λ (r : IpNet × Hop). IsTruncated (family r.0) (parts r.0)) ns ms v4.truncated v6.truncated
