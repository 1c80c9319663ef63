-- Both sides of a table, one after the other.
use Rattle.std.proofs.Common.{◌≡◌, inl, ⊎_elim, Bool, true, false, ◌&&◌, ◌||◌, not, nat_lt, nat_le, ◌==◌, ◌-◌, ◌/◌, ◌^◌, List, [], ◌∷◌, ◌++◌, All, length, filter, map, refl, sym, ap, ◌∙◌, subst, arith, append-nil, ◌↔◌, Contains, ℕ, Option, Result}
use Rattle.std.specs.FinMap.{from_entries, entries}
use Rattle.std.proofs.lemmas.List.{append_assoc, map-append}
use Rattle.std.proofs.lemmas.List.Elements.{filter-append}
use Rattle.ipnet_addr.specs.Addresses.{Family, Ipv4, Ipv6, rank, same_family}
use Rattle.ipnet_addr.proofs.Members.{In, In-cases, In-left, In-right}
use Rattle.ipnet_addr.proofs.Ascending.{In-from_All, All-from_In, pairs_from_Rising, In-from_Contains, Contains-from_In}
use Rattle.ipnet_blocks.specs.Blocks.{Block, IsBlock, bit_string, first, is_before, is_inside, same_block, IsBefore, IsInside, IsLarger, first_of}
use Rattle.ipnet_blocks.specs.BitStrings.{bits_cmp, begins}
use Rattle.route_choices.specs.Choices.{Choice, choices_with, choices_without, holds_hop, is_one_too_many}
use Rattle.route_choices.specs.declared.hop.Hop.{Hop}
use Rattle.route_choices.proofs.Kept.{In-map, Rising-joined, all_kept, none_kept, filter_map_swap, map_In}
use Rattle.route_table.specs.Given.{AreFamilies, AreRoutes}
use Rattle.route_table.specs.InnerFamilyTables.{IsFamilyTable, IsStored, stored_at, stored_in, AddsTo, RemovesFrom}
use Rattle.route_laws.specs.Networks.{Stored, IsStoredTable, best_route, choices_at, networks_outside, routes_of, with_choice, with_choices, with_stored, without_choice, without_stored, IsLeaf}
use Rattle.route_laws.specs.Onwards.{count_of}
use Rattle.route_laws.specs.Tables.{Route, IsTable, covering, longest, match_of, routes_inside, Governed, match_number}
use Rattle.route_table.specs.Tries.{map_of}
use Rattle.route_laws.proofs.Networks.{routes_are_table, good, rising, stored_table_of, at_cases, at_member, at_none}
use Rattle.route_laws.proofs.Matches.{Earlier}
use Rattle.ipnet_blocks.specs.Maximal.{IsMaximal, IsMaximalBlock}
use Rattle.ipnet_blocks.proofs.BlockLaws.{has_first, numbers_from_inside, same_sets}
use Rattle.ipnet_blocks.proofs.Parents.{decide_inside}
use Rattle.ipnet_blocks.proofs.Strings.{length-digits, begins_from_inside, inside_from_begins}
use Rattle.trie_core.specs.Inside.{NothingInside}
use Rattle.trie_core.specs.Nodes.{BitMap}
use Rattle.route_table.proofs.FamilyMap.{get_of, in_entries, nothing_inside, only_itself, has_stored}
use Rattle.route_table.proofs.Strings.{begun_same, block_at_is_block, same_string, string_of_block, string_or_not}
use Rattle.std.proofs.lemmas.Option.{IfSome_then}
use Rattle.std.proofs.lemmas.Result.{IfErr-weaker, IfOk-weaker, on_err_weaker, on_ok_weaker}
use Rattle.ipnet_blocks.specs.Networks.{block_of}
use Rattle.ipnet.specs.IpNets.{block, family}
use Rattle.ipnet.specs.declared.ip_net.IpNet.{IpNet}
use Rattle.ipnet.specs.declared.ip_net.IpNet.TheVariants.{V4, V6}
use Rattle.route_table.specs.Refusals.{IsRefused}
use Rattle.route_table.specs.declared.refused.AddRefused.{AddRefused}

-- the other family
abbrev other : Family → Family
other Ipv4 = Ipv6
other Ipv6 = Ipv4

far : (f g : Family) → g ≡ other f → same_family g f ≡ false
far f g e = ap (λ h. same_family h f) e ∙ elim f as (λ f. same_family (other f) f ≡ false) [ Ipv4 ↦ refl | Ipv6 ↦ refl ]

far_back : (f g : Family) → g ≡ other f → same_family f g ≡ false
far_back f g e = ap (λ h. same_family f h) e ∙ elim f as (λ f. same_family f (other f) ≡ false) [ Ipv4 ↦ refl | Ipv6 ↦ refl ]

-- blocks of two families
module _ (m n : Block) where
  not_inside : m.family ≡ other n.family → is_inside m n ≡ false
  not_inside e = ap (λ c. c && nat_le n.len m.len && (m.quotient / 2 ^ (m.len - n.len) == n.quotient)) (far n.family m.family e)

  not_around : n.family ≡ other m.family → is_inside m n ≡ false
  not_around e = ap (λ c. c && nat_le n.len m.len && (m.quotient / 2 ^ (m.len - n.len) == n.quotient)) (far_back m.family n.family e)

  not_same : m.family ≡ other n.family → same_block m n ≡ false
  not_same e = ap (λ c. c && (m.len == n.len) && (m.quotient == n.quotient)) (far n.family m.family e)

  abbrev later : Bool
  later = nat_lt (first m) (first n) || ((first m == first n) && nat_lt m.len n.len)

  ipv4_first : m.family ≡ Ipv4 → n.family ≡ Ipv6 → is_before m n ≡ true
  ipv4_first p q = λ i. nat_lt (rank (p i)) (rank (q i)) || ((rank (p i) == rank (q i)) && later)

  ipv6_last : m.family ≡ Ipv6 → n.family ≡ Ipv4 → is_before m n ≡ false
  ipv6_last p q = λ i. nat_lt (rank (p i)) (rank (q i)) || ((rank (p i) == rank (q i)) && later)

module _ (a b : List Stored) (sides : IsFamilyTable Ipv4 a × IsFamilyTable Ipv6 b) where
  -- the side of a family, and the table with another one
  abbrev pub side : Family → List Stored
  side Ipv4 = a
  side Ipv6 = b

  abbrev pub with_side : Family → List Stored → List Stored
  with_side Ipv4 c = c ++ b
  with_side Ipv6 c = a ++ c

  of_ipv4 : (s : Stored) → In s a → s.block.family ≡ Ipv4
  of_ipv4 = In-from_All (λ (s : Stored). s.block.family ≡ Ipv4) a sides.0.family

  of_ipv6 : (s : Stored) → In s b → s.block.family ≡ Ipv6
  of_ipv6 = In-from_All (λ (s : Stored). s.block.family ≡ Ipv6) b sides.1.family

  of_its_side : (f : Family) (s : Stored) → In s (a ++ b) → s.block.family ≡ f → In s (side f)
  of_its_side Ipv4 s i e = ⊎_elim (λ j. j) (λ j. absurd (let z = sym e ∙ of_ipv6 s j in cc)) (In-cases s a b i)
  of_its_side Ipv6 s i e = ⊎_elim (λ j. absurd (let z = sym e ∙ of_ipv4 s j in cc)) (λ j. j) (In-cases s a b i)

  in_table : (f : Family) (s : Stored) → In s (side f) → In s (a ++ b)
  in_table Ipv4 s i = In-left s a b i
  in_table Ipv6 s i = In-right s a b i

  -- the networks of both are a table
  pub is_stored_table : IsStoredTable (a ++ b)
  is_stored_table = stored_table_of (a ++ b) (λ s i. ⊎_elim (good a sides.0.table s) (good b sides.1.table s) (In-cases s a b i))
      (Rising-joined (Earlier Stored.block) a b (rising a sides.0.table) (rising b sides.1.table)
      (λ r s i j. let p = ap rank (of_ipv4 r i) in let q = ap rank (of_ipv6 s j) in inl (omega arith)))

  -- and their best routes
  pub is_table : IsTable (routes_of (a ++ b))
  is_table = routes_are_table (a ++ b) is_stored_table

  -- a test that no network of the other family passes
  pub filter_side : (f : Family) (p : Stored → Bool) → ((s : Stored) → s.block.family ≡ other f → p s ≡ false) → filter p (a ++ b) ≡ filter p (side f)
  filter_side Ipv4 p h = filter-append p a b ∙ ap (λ c. filter p a ++ c) (none_kept p b (λ r i. h r (of_ipv6 r i))) ∙ append-nil (filter p a)
  filter_side Ipv6 p h = filter-append p a b ∙ ap (λ c. c ++ filter p b) (none_kept p a (λ r i. h r (of_ipv4 r i)))

  -- a test that each of them passes
  pub filter_with : (f : Family) (p : Stored → Bool) → ((s : Stored) → s.block.family ≡ other f → p s ≡ true) → filter p (a ++ b) ≡ with_side f (filter p (side f))
  filter_with Ipv4 p h = filter-append p a b ∙ ap (λ c. filter p a ++ c) (all_kept p b (λ r i. h r (of_ipv6 r i)))
  filter_with Ipv6 p h = filter-append p a b ∙ ap (λ c. c ++ filter p b) (all_kept p a (λ r i. h r (of_ipv4 r i)))

  -- a test of best routes that none of the other family passes
  routes_side : (f : Family) (p : Route → Bool) → ((s : Stored) → s.block.family ≡ other f → p (best_route s) ≡ false) → filter p (routes_of (a ++ b)) ≡ filter p (routes_of (side f))
  routes_side f p h =
      filter_map_swap best_route p (a ++ b)
      ∙ ap (map best_route) (filter_side f (λ s. p (best_route s)) h)
      ∙ sym (filter_map_swap best_route p (side f))

  -- ---- what concerns one family, or one block

  pub map_side : (f : Family) → map_of f (a ++ b) ≡ map_of f (side f)
  unfolding map_of
  map_side f = ap (λ ss. from_entries {R = bits_cmp} (map (λ (s : Stored). (bit_string s.block, s.choices)) ss)) (filter_side f (λ s. same_family s.block.family f) (λ s e. far f s.block.family e))

  pub count_side : (f : Family) → count_of f (routes_of (a ++ b)) ≡ count_of f (routes_of (side f))
  count_side f = ap length (routes_side f (λ r. same_family r.block.family f) (λ s e. far f s.block.family e))

  with_stored_side : (r : Stored) → with_stored (a ++ b) r ≡ with_side r.block.family (with_stored (side r.block.family) r)
  with_stored_side r = go r.block.family refl
    where
      go : (f : Family) → r.block.family ≡ f → with_stored (a ++ b) r ≡ with_side f (with_stored (side f) r)
      go Ipv4 e =
          (λ i. filter_side Ipv4 (λ s. is_before s.block r.block) (λ s p. ipv6_last s.block r.block p e) i ++ r ∷ filter_with Ipv4 (λ s. is_before r.block s.block) (λ s p. ipv4_first r.block s.block e p) i)
          ∙ sym (append_assoc (filter (λ s. is_before s.block r.block) a) (r ∷ filter (λ s. is_before r.block s.block) a) b)
      go Ipv6 e =
          (λ i. filter_with Ipv6 (λ s. is_before s.block r.block) (λ s p. ipv4_first s.block r.block p e) i ++ r ∷ filter_side Ipv6 (λ s. is_before r.block s.block) (λ s p. ipv6_last r.block s.block e p) i)
          ∙ append_assoc a (filter (λ s. is_before s.block r.block) b) (r ∷ filter (λ s. is_before r.block s.block) b)

  module _ (n : Block) where
    pub inside_side : routes_inside (routes_of (a ++ b)) n ≡ routes_inside (routes_of (side n.family)) n
    inside_side = routes_side n.family (λ r. is_inside r.block n) (λ s e. not_inside s.block n e)

    pub covering_side : covering (routes_of (a ++ b)) n ≡ covering (routes_of (side n.family)) n
    covering_side = routes_side n.family (λ r. is_inside n r.block) (λ s e. not_around n s.block e)

    pub match_side : match_of (routes_of (a ++ b)) n ≡ match_of (routes_of (side n.family)) n
    match_side = ap longest covering_side

    -- the routes of its family that pass a test
    pub onwards_side : (p : Route → Bool) → filter (λ r. same_family r.block.family n.family && p r) (routes_of (a ++ b)) ≡ filter (λ r. same_family r.block.family n.family && p r) (routes_of (side n.family))
    onwards_side p = routes_side n.family (λ r. same_family r.block.family n.family && p r) (λ s e. ap (λ c. c && p (best_route s)) (far n.family s.block.family e))

    pub choices_side : choices_at (a ++ b) n ≡ choices_at (side n.family) n
    choices_side = ⊎_elim
        (λ t. ap (choices_at (a ++ b)) (sym t.2) ∙ at_member (a ++ b) is_stored_table t.0 (in_table n.family t.0 t.1) ∙ sym t.3)
        (λ t. at_none (a ++ b) is_stored_table n (λ s i e. t.0 s (of_its_side n.family s i (ap Block.family e)) e) ∙ sym t.1)
        (at_cases (side n.family) n)

    pub leaf_side : IsLeaf (side n.family) n ↔ IsLeaf (a ++ b) n
    leaf_side = (
      λ f s c l. f s (Contains-from_In (side n.family) s (of_its_side n.family s (In-from_Contains (a ++ b) s c) (l.0 (first_of s.block) (has_first s.block)).0)) l,
      λ f s c l. f s (Contains-from_In (a ++ b) s (in_table n.family s (In-from_Contains (side n.family) s c))) l,
    )

    pub without_stored_side : without_stored (a ++ b) n ≡ with_side n.family (without_stored (side n.family) n)
    without_stored_side = filter_with n.family (λ s. not (same_block s.block n)) (λ s e. ap not (not_same s.block n e))

    pub outside_side : networks_outside (a ++ b) n ≡ with_side n.family (networks_outside (side n.family) n)
    outside_side = filter_with n.family (λ s. not (is_inside s.block n)) (λ s e. ap not (not_inside s.block n e))

    pub with_choices_side : (cs : List Choice) → with_choices (a ++ b) n cs ≡ with_side n.family (with_choices (side n.family) n cs)
    with_choices_side [] = without_stored_side
    with_choices_side (c ∷ cs) = with_stored_side (record { block = n; choices = c ∷ cs })

    -- an accepted `add` and a `del`
    pub with_choice_side : (c : Choice) → with_choice (a ++ b) n c ≡ with_side n.family (with_choice (side n.family) n c)
    with_choice_side c = ap (λ cs. with_choices (a ++ b) n (choices_with cs c)) choices_side ∙ with_choices_side (choices_with (choices_at (side n.family) n) c)

    pub without_choice_side : (h : Hop) → without_choice (a ++ b) n h ≡ with_side n.family (without_choice (side n.family) n h)
    without_choice_side h = ap (λ cs. with_choices (a ++ b) n (choices_without cs h)) choices_side ∙ with_choices_side (choices_without (choices_at (side n.family) n) h)

-- a table that is seen as its two sides
pub seen_table : (a b T : List Stored) → IsFamilyTable Ipv4 a × IsFamilyTable Ipv6 b → a ++ b ≡ T → IsTable (routes_of T)
seen_table a b T sides is = subst (λ T. IsTable (routes_of T)) is (is_table a b sides)

-- the best routes of a side are of its family
pub routes_in_family : (f : Family) (T : List Stored) → IsFamilyTable f T → (r : Route) → In r (routes_of T) → r.block.family ≡ f
routes_in_family f T side r i = let t = In-map best_route T r i in ap (λ (u : Route). u.block.family) t.2 ∙ In-from_All (λ (s : Stored). s.block.family ≡ f) T side.family t.0 t.1

routes_of_side : (f : Family) (T : List Stored) (rs : List Route) → IsFamilyTable f T → rs ≡ routes_of T → All (λ r. r.block.family ≡ f) rs
routes_of_side f T rs side e = All-from_In (λ (r : Route). r.block.family ≡ f) rs (λ r i. routes_in_family f T side r (subst (λ xs. In r xs) e i))

-- the routes of both sides
pub both_families : (a b T : List Stored) → IsFamilyTable Ipv4 a × IsFamilyTable Ipv6 b → a ++ b ≡ T → (v4 v6 : List Route) → v4 ≡ routes_of a → v6 ≡ routes_of b → AreFamilies (routes_of T) v4 v6
both_families a b T sides is v4 v6 e f = record {
  routes = (λ i. e i ++ f i) ∙ sym (map-append best_route a b) ∙ ap routes_of is;
  table = seen_table a b T sides is;
  ipv4 = routes_of_side Ipv4 a v4 sides.0 e;
  ipv6 = routes_of_side Ipv6 b v6 sides.1 f;
}

-- ---- where no network lies strictly inside a block: in the map of a side

module _ (n : Block) (okn : IsBlock n) (m : BitMap (List Choice)) (ok : IsStored n.family m) where
  leaf_in_map : NothingInside m (bit_string n) ↔ IsLeaf (stored_in n.family m) n
  leaf_in_map = (
    λ none s c l.
        let h = has_stored n.family m ok s (In-from_Contains (stored_in n.family m) s c) in
        let e = only_itself m (bit_string n) none (bit_string s.block, s.choices) (in_entries m (bit_string s.block) s.choices h.stored) (begins_from_inside s.block n h.block okn l.0) in
        l.1 (subst (IsInside n) (sym (same_string s.block n h.block okn h.family e)) (λ x a. a)),
    λ leaf. nothing_inside m (bit_string n) (λ e i b. ⊎_elim
        (λ q. q)
        (λ q.
        let s = stored_at n.family e in
        let bits = string_of_block n.family e.0 in
        let okd = block_at_is_block n.family e.0 (ok.within e.0 e.1 (get_of m e.0 e.1 i)) in
        absurd (leaf s (Contains-from_In (stored_in n.family m) s (map_In (stored_at n.family) (entries m) e i)) (
          inside_from_begins s.block n okd okn refl (ap (begins (bit_string n)) bits ∙ b),
          λ back. q (begun_same (bit_string n) e.0 b (omega (arith, (numbers_from_inside n s.block okn okd back).long, length-digits n.len n.quotient))),
        )))
        (string_or_not e.0 (bit_string n))),
  )

  pub leaf_at : (T : List Stored) → stored_in n.family m ≡ T → (s : List Bool) → s ≡ bit_string n → NothingInside m s ↔ IsLeaf T n
  leaf_at T is s same = subst (λ U. NothingInside m s ↔ IsLeaf U n) is (subst (λ k. NothingInside m k ↔ IsLeaf (stored_in n.family m) n) (sym same) leaf_in_map)

-- ---- what a leaf governs

module _ (T : List Stored) (n : Block) (ok : IsBlock n) (leaf : IsLeaf T n) where
  free : (r : Route) → Contains (routes_of T) r → IsLarger n r.block → ⊥
  free r c l =
      let t = In-map best_route T r (In-from_Contains (routes_of T) r c) in
      leaf t.0 (Contains-from_In T t.0 t.1) (subst (λ (b : Block). IsLarger n b) (ap Route.block t.2) l)

  whole : IsMaximalBlock (Governed (routes_of T) n) n
  whole = record {
    within = record { block = ok; all = λ x h. record { inside = h; free = λ r c l k. free r c l } };
    largest = λ c w l. l.1 (λ x h. (w.all x h).inside);
  }

  -- itself alone
  pub leaf_governs : IsMaximal (Governed (routes_of T) n) (n ∷ [])
  leaf_governs = record {
    ascending = pairs_from_Rising IsBefore (n ∷ []) ((λ b i. absurd i), tt);
    exact = λ b. (
      λ c. subst (IsMaximalBlock (Governed (routes_of T) n)) (sym (⊎_elim (λ e. e) (λ i. absurd i) (In-from_Contains (n ∷ []) b c))) whole,
      λ w. Contains-from_In (n ∷ []) b (inl (
          let inside : IsInside b n = λ x h. (w.within.all x h).inside in
          ⊎_elim (λ back. same_sets b n w.within.block ok inside back) (λ none. absurd (w.largest n whole.within (inside, none))) (decide_inside n b ok w.within.block))),
    );
  }

-- ---- calls of one side of a table, as calls of the table

-- what holds where one side is another one
module _ (a b : List Stored) (sides : IsFamilyTable Ipv4 a × IsFamilyTable Ipv6 b) where
  with_is_table : (f : Family) (U : List Stored) → IsFamilyTable f U → IsStoredTable (with_side a b sides f U)
  with_is_table Ipv4 U u = is_stored_table U b (u, sides.1)
  with_is_table Ipv6 U u = is_stored_table a U (sides.0, u)

  match_with : (v : IpNet) (U : List Stored) → IsFamilyTable (family v) U → match_of (routes_of (with_side a b sides (family v) U)) (block v) ≡ match_of (routes_of U) (block v)
  match_with (V4 n) U u = match_side U b (u, sides.1) (block_of Ipv4 n)
  match_with (V6 n) U u = match_side a U (sides.0, u) (block_of Ipv6 n)

  leaf_with : (v : IpNet) (U : List Stored) → IsFamilyTable (family v) U → IsLeaf U (block v) ↔ IsLeaf (with_side a b sides (family v) U) (block v)
  leaf_with (V4 n) U u = leaf_side U b (u, sides.1) (block_of Ipv4 n)
  leaf_with (V6 n) U u = leaf_side a U (sides.0, u) (block_of Ipv6 n)

  with_own : (f : Family) → with_side a b sides f (side a b sides f) ≡ a ++ b
  with_own Ipv4 = refl
  with_own Ipv6 = refl

-- a table that is seen as its two sides, and a network of one family
module _ {a b T : List Stored} (sides : IsFamilyTable Ipv4 a × IsFamilyTable Ipv6 b) (is : a ++ b ≡ T) where
  pub seen_is_table : IsStoredTable T
  seen_is_table = subst IsStoredTable is (is_stored_table a b sides)

  module _ {net v : IpNet} (e : net ≡ v) where
    abbrev own : List Stored
    own = side a b sides (family v)

    seen : (P : List Stored → Block → Type 0) → P (a ++ b) (block v) → P T (block net)
    seen P p = subst (λ U. P U (block net)) is (subst (λ w. P (a ++ b) (block w)) (sym e) p)

    pub choices_seen : choices_at own (block v) ≡ choices_at T (block net)
    choices_seen = seen (λ U n. choices_at own (block v) ≡ choices_at U n) (sym (choices_side a b sides (block v)))

    pub match_seen : match_of (routes_of own) (block v) ≡ match_of (routes_of T) (block net)
    match_seen = seen (λ U n. match_of (routes_of own) (block v) ≡ match_of (routes_of U) n) (sym (match_side a b sides (block v)))

    pub leaf_seen : IsLeaf own (block v) ↔ IsLeaf T (block net)
    leaf_seen = seen (λ U n. IsLeaf own (block v) ↔ IsLeaf U n) (leaf_side a b sides (block v))

    pub map_seen : map_of (block v).family own ≡ map_of (block net).family T
    map_seen = seen (λ U n. map_of (family v) own ≡ map_of n.family U) (sym (map_side a b sides (family v)))

    pub inside_seen : (rs : List Route) → rs ≡ routes_inside (routes_of own) (block v) → AreRoutes (routes_of T) (routes_inside (routes_of T) (block net)) rs
    inside_seen rs h = record {
      routes = h ∙ seen (λ U n. routes_inside (routes_of own) (block v) ≡ routes_inside (routes_of U) n) (sym (inside_side a b sides (block v)));
      table = seen_table a b T sides is;
    }

    -- the side after a change
    module _ {U : List Stored} (u : IsFamilyTable (family v) U) where
      abbrev changed : List Stored → List Stored
      changed = with_side a b sides (family v)

      pub tables_seen : IsStoredTable T × IsStoredTable (changed U)
      tables_seen = (seen_is_table, with_is_table a b sides (family v) U u)

      pub leaf_after : IsLeaf U (block v) ↔ IsLeaf (changed U) (block net)
      leaf_after = seen (λ _ n. IsLeaf U (block v) ↔ IsLeaf (changed U) n) (leaf_with a b sides v U u)

      pub put_seen : (cs : List Choice) → U ≡ with_choices own (block v) cs → changed U ≡ with_choices T (block net) cs
      put_seen cs e = seen (λ W n. changed U ≡ with_choices W n cs) (ap changed e ∙ sym (with_choices_side a b sides (block v) cs))

      pub outside_seen : U ≡ networks_outside own (block v) → changed U ≡ networks_outside T (block net)
      outside_seen e = seen (λ W n. changed U ≡ networks_outside W n) (ap changed e ∙ sym (outside_side a b sides (block v)))

      pub adds_seen : {c : Choice} {r : Result (Option ℕ × Option ℕ × Bool) AddRefused} → AddsTo own (block v) c r U → AddsTo T (block net) c r (changed U)
      adds_seen {c} {r} h =
          let old = choices_side a b sides (block v) in
          let leaf = leaf_with a b sides v U u in
          seen (λ W n. AddsTo W n c r (changed U)) (record {
            hops = IfOk-weaker r _ _ (λ k e. (e.0 ∙ ap match_number (sym (match_side a b sides (block v))), e.1 ∙ ap match_number (sym (match_with a b sides v U u)))) h.hops;
            leaf = IfOk-weaker r _ _ (λ k e. (λ t. (old ∙ (e.0 t).0, leaf.0 (e.0 t).1), λ new. e.1 (sym old ∙ new.0, leaf.1 new.1))) h.leaf;
            networks = on_ok_weaker r (λ e. ap changed e ∙ sym (with_choice_side a b sides (block v) c)) h.networks;
            room = on_ok_weaker r (λ e. ap (λ cs. is_one_too_many cs c.hop) old ∙ e) h.room;
            refused = IfErr-weaker r _ _ (λ k. subst (λ (cs : List Choice). IsRefused cs c.hop k) (sym old)) h.refused;
            unchanged = on_err_weaker r (λ e. ap changed e ∙ with_own a b sides (family v)) h.unchanged;
          })

      pub removes_seen : {h : Hop} {r : Option (Option ℕ × Option ℕ)} → RemovesFrom own (block v) h r U → RemovesFrom T (block net) h r (changed U)
      removes_seen {h} {r} was = seen (λ W n. RemovesFrom W n h r (changed U)) (record {
        held = was.held ∙ ap (λ cs. holds_hop cs h) (sym (choices_side a b sides (block v)));
        hops = IfSome_then r was.hops (λ k e. (e.0 ∙ ap match_number (sym (match_side a b sides (block v))), e.1 ∙ ap match_number (sym (match_with a b sides v U u))));
        networks = ap changed was.networks ∙ sym (without_choice_side a b sides (block v) h);
      })
