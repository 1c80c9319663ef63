-- The parts of a table in the two families, as bit strings: what they store and hold, and how far two tables are apart.
use Rattle.std.proofs.Common.{◌≡◌, ℕ, ◌+◌, ◌≤◌, Bool, true, false, cond, not, ◌&&◌, All, List, [], ◌∷◌, ◌++◌, filter, length, Option, refl, sym, ap, ap₂, ◌∙◌, subst, append-nil, length-append, reverse, arith}
use Rattle.std.proofs.lemmas.Bool.{and_from, false_from_ne_true}
use Rattle.std.proofs.lemmas.List.{length-map, length-reverse}
use Rattle.std.proofs.lemmas.List.Elements.{filter-append}
use Rattle.ipnet_addr.specs.Addresses.{Family, Ipv4, Ipv6}
use Rattle.ipnet_addr.proofs.Basics.{In-from_list_any, filtered_length, list_any-from_In}
use Rattle.ipnet_addr.proofs.Members.{In, In-left, In-right}
use Rattle.ipnet_addr.proofs.Ascending.{In-from_All}
use Rattle.ipnet_blocks.specs.Blocks.{Block, IsBlock, bit_string, family_block, is_inside, same_block}
use Rattle.ipnet_blocks.proofs.BlockTests.{same_from_test, test_from_same}
use Rattle.ipnet_blocks.proofs.Search.{whole_is_block, inside_whole}
use Rattle.least_table.specs.HopSets as hops
use Rattle.least_table.proofs.Sets.{same_hop-refl}
use Rattle.least_table.specs.Nearest as near
use Rattle.route_choices.proofs.Kept.{In-filter, In-from_filter, In-map, all_kept, filter_map_swap, map_In, none_kept, same_kept}
use Rattle.route_laws.specs.Operations.{Install, Remove, between, installs, is_held, missing, removes, same_route, surplus}
use Rattle.route_laws.specs.Tables.{Route, IsTable, is_stored}
use Rattle.route_laws.proofs.Between.{route_from_test}
use Rattle.route_laws.proofs.Insides.{apart, family_tested, order, separate, few, filter_again, sound, within}
use Rattle.route_laws.proofs.Matches.{bools_same, test_from_inside, not_cases, not_from}
use Rattle.route_table.specs.Given.{AreFamilies}
use Rattle.route_table.specs.InnerLeast.{entry_of, entries_of}
use Rattle.route_table.proofs.FamilyBits.{AllOf}
use Rattle.route_table.proofs.Strings.{same_string, string-refl, string-true}

-- the routes of one family
abbrev pub part : Family → List Route → List Route
part f M = within (family_block f) M

-- and as bit strings
abbrev pub bits_of : Family → List Route → List (List Bool × Option ℕ)
bits_of f M = entries_of (part f M)

pub part_all : (f : Family) (M : List Route) → AllOf f (part f M)
part_all f M r i = family_tested r.block (family_block f) (In-from_filter (λ q. is_inside q.block (family_block f)) M r i).1

inside_own : (f : Family) (r : Route) → IsBlock r.block → r.block.family ≡ f → is_inside r.block (family_block f) ≡ true
inside_own f r p e = test_from_inside r.block (family_block f) p (whole_is_block f) (inside_whole r.block f p e)

pub part_In : (f : Family) (M : List Route) → IsTable M → (r : Route) → In r M → r.block.family ≡ f → In r (part f M)
part_In f M t r i e = In-filter (λ q. is_inside q.block (family_block f)) M r i (inside_own f r (sound M t r i).0 e)

-- ---- the routes of each family, one after the other

module _ (M v4 v6 : List Route) (families : AreFamilies M v4 v6) where
  joined : IsTable (v4 ++ v6)
  joined = subst IsTable (sym families.routes) families.table

  -- a part keeps all routes of its family, and none of the other one
  kept : (f : Family) (rs : List Route) → ((r : Route) → In r rs → In r (v4 ++ v6)) → All (λ r. r.block.family ≡ f) rs → part f rs ≡ rs
  kept f rs among all = all_kept (λ r. is_inside r.block (family_block f)) rs
      (λ r i. inside_own f r (sound (v4 ++ v6) joined r (among r i)).0 (In-from_All (λ (q : Route). q.block.family ≡ f) rs all r i))

  gone : (f g : Family) (rs : List Route) → (g ≡ f → ⊥) → All (λ r. r.block.family ≡ g) rs → part f rs ≡ []
  gone f g rs apart all = none_kept (λ r. is_inside r.block (family_block f)) rs
      (λ r i. false_from_ne_true _ (λ e. apart (sym (In-from_All (λ (q : Route). q.block.family ≡ g) rs all r i) ∙ family_tested r.block (family_block f) e)))

  split : (f : Family) → part f M ≡ part f v4 ++ part f v6
  split f = ap (part f) (sym families.routes) ∙ filter-append (λ r. is_inside r.block (family_block f)) v4 v6

  pub part_four : part Ipv4 M ≡ v4
  part_four = split Ipv4 ∙ ap₂ (λ xs ys. xs ++ ys) (kept Ipv4 v4 (λ r i. In-left r v4 v6 i) families.ipv4) (gone Ipv4 Ipv6 v6 (λ e. cc) families.ipv6) ∙ append-nil v4

  pub part_six : part Ipv6 M ≡ v6
  part_six = split Ipv6 ∙ ap₂ (λ xs ys. xs ++ ys) (gone Ipv6 Ipv4 v4 (λ e. cc) families.ipv4) (kept Ipv6 v6 (λ r i. In-right r v4 v6 i) families.ipv6)

-- ---- what a part stores and holds

-- whether two entries are the same
abbrev pub same_entry : List Bool × Option ℕ → List Bool × Option ℕ → Bool
same_entry q e = near.same_string q.0 e.0 && hops.is_same_hop q.1 e.1

pub entry-refl : (e : List Bool × Option ℕ) → same_entry e e ≡ true
entry-refl e = and_from _ _ (string-refl e.0) (same_hop-refl e.1)

module _ (f : Family) (M : List Route) (table : IsTable M) where
  pub stored_bits : (b : Block) → IsBlock b → b.family ≡ f → is_stored M b ≡ near.stores (bits_of f M) (bit_string b)
  stored_bits b p g = bools_same (is_stored M b) (near.stores (bits_of f M) (bit_string b)) to from
    where
      to : is_stored M b ≡ true → near.stores (bits_of f M) (bit_string b) ≡ true
      to e =
          let t = In-from_list_any (λ r. same_block r.block b) M e in
          let r = t.0 in
          let k : r.block ≡ b = same_from_test r.block b t.2 in
          list_any-from_In (λ q. near.same_string q.0 (bit_string b)) (bits_of f M) (entry_of r)
          (map_In entry_of (part f M) r (part_In f M table r t.1 (ap Block.family k ∙ g)))
          (ap (λ c. near.same_string (bit_string c) (bit_string b)) k ∙ string-refl (bit_string b))

      from : near.stores (bits_of f M) (bit_string b) ≡ true → is_stored M b ≡ true
      from e =
          let t = In-from_list_any (λ q. near.same_string q.0 (bit_string b)) (bits_of f M) e in
          let u = In-map entry_of (part f M) t.0 t.1 in
          let r = u.0 in
          let i = (In-from_filter (λ q. is_inside q.block (family_block f)) M r u.1).0 in
          let s : bit_string r.block ≡ bit_string b = ap (λ (q : List Bool × Option ℕ). q.0) (sym u.2)
          ∙ string-true (t.0).0 (bit_string b) t.2 in
          list_any-from_In (λ q. same_block q.block b) M r i
          (test_from_same r.block b (same_string r.block b (sound M table r i).0 p (part_all f M r u.1 ∙ sym g) s))

  pub held_bits : (r : Route) → r.block.family ≡ f → is_held M r ≡ true → near.has (bits_of f M) (entry_of r) ≡ true
  held_bits r g e =
      let t = In-from_list_any (λ s. same_route s r) M e in
      let i : In r M = subst (λ (s : Route). In s M) (route_from_test t.0 r t.2) t.1 in
      list_any-from_In (λ q. same_entry q (entry_of r)) (bits_of f M) (entry_of r)
      (map_In entry_of (part f M) r (part_In f M table r i g)) (entry-refl (entry_of r))

-- ---- how far two tables are apart

-- a test that fails where another does keeps no more
kept_less : {A : Type 0} (p q : A → Bool) (xs : List A) → ((a : A) → In a xs → p a ≡ true → q a ≡ true)
    → length (filter p xs) ≤ length (filter q xs)
kept_less p q xs h = subst (λ n. n ≤ length (filter q xs)) (ap length (filter_again q p xs h)) (filtered_length p (filter q xs))

kept_swap : {A : Type 0} (p q : A → Bool) (xs : List A) → filter p (filter q xs) ≡ filter q (filter p xs)
kept_swap p q [] = refl
kept_swap {A} p q (x ∷ xs) = go (p x) (q x) refl refl (kept_swap p q xs)
  where
    go : (b c : Bool) → p x ≡ b → q x ≡ c → filter p (filter q xs) ≡ filter q (filter p xs)
        → filter p (cond c (x ∷ filter q xs) (filter q xs)) ≡ filter q (cond b (x ∷ filter p xs) (filter p xs))
    go true true e g h = rw (e, g) (ap (λ (ys : List A). x ∷ ys) h)
    go true false e g h = rw g h
    go false true e g h = rw e h
    go false false e g h = h

pub length-between : (M L : List Route) → length (between M L) ≡ length (missing M L) + length (surplus M L)
length-between M L = length-append (installs (reverse (missing M L))) (removes (surplus M L))
    ∙ ap₂ (λ m n. m + n) (length-map (reverse (missing M L)) Install ∙ length-reverse (missing M L))
    (length-map (surplus M L) (λ r. Remove (Route.block r)))

module _ (M L : List Route) (old : IsTable M) (new : IsTable L) where
  pub surplus_bits : (f : Family)
      → near.surplus_routes (bits_of f M) (bits_of f L) ≡ entries_of (filter (λ r. not (is_stored L r.block)) (part f M))
  surplus_bits f = filter_map_swap entry_of (λ e. not (near.stores (bits_of f L) e.0)) (part f M)
      ∙ ap entries_of
      (same_kept (λ r. not (near.stores (bits_of f L) (bit_string r.block))) (λ r. not (is_stored L r.block)) (part f M)
      (λ r i. ap not
      (sym (stored_bits f L new r.block (sound M old r (In-from_filter (λ q. is_inside q.block (family_block f)) M r i).0).0
      (part_all f M r i)))))

  few_surplus : (f : Family) → length (near.surplus_routes (bits_of f M) (bits_of f L)) ≡ length (part f (surplus M L))
  few_surplus f = ap length (surplus_bits f) ∙ length-map (filter (λ r. not (is_stored L r.block)) (part f M)) entry_of
      ∙ ap length (kept_swap (λ r. not (is_stored L r.block)) (λ r. is_inside r.block (family_block f)) M)

  few_missing : (f : Family) → length (near.missing_routes (bits_of f M) (bits_of f L)) ≤ length (part f (missing M L))
  few_missing f =
      let e : length (near.missing_routes (bits_of f M) (bits_of f L)) ≡ length
      (filter (λ r. not (near.has (bits_of f M) (entry_of r))) (part f L)) =
      ap length (filter_map_swap entry_of (λ e. not (near.has (bits_of f M) e)) (part f L))
      ∙ length-map (filter (λ r. not (near.has (bits_of f M) (entry_of r))) (part f L)) entry_of in
      let g : length (filter (λ r. not (is_held M r)) (part f L)) ≡ length (part f (missing M L)) =
      ap length (kept_swap (λ r. not (is_held M r)) (λ r. is_inside r.block (family_block f)) L) in
      let l = kept_less (λ r. not (near.has (bits_of f M) (entry_of r))) (λ r. not (is_held M r)) (part f L)
      (λ r i n. not_from (is_held M r)
      (λ k. not_cases (near.has (bits_of f M) (entry_of r)) n (held_bits f M old r (part_all f L r i) k))) in
      omega (arith, e, g, l)

  both_few : (X : List Route) → length (part Ipv4 X) + length (part Ipv6 X) ≤ length X
  both_few X = few (family_block Ipv4) (family_block Ipv6) (whole_is_block Ipv4) (whole_is_block Ipv6) apart separate order X

  -- the operations between two tables are no fewer than the edits of both families
  pub parts_no_more : near.distance (bits_of Ipv4 M) (bits_of Ipv4 L) + near.distance (bits_of Ipv6 M) (bits_of Ipv6 L) ≤ length
      (between M L)
  parts_no_more =
      omega (
        arith,
        length-between M L,
        few_missing Ipv4,
        few_missing Ipv6,
        few_surplus Ipv4,
        few_surplus Ipv6,
        both_few (missing M L),
        both_few (surplus M L),
      )
