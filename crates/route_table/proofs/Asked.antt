-- What searches of a side's trie find, as what its routes have as bit strings.
use Rattle.std.proofs.Common.{◌≡◌, ℕ, ◌-◌, ◌<◌, ◌≤◌, ◌↔◌, inl, inr, Bool, true, false, cond, nat_lt, List, [], ◌∷◌, length, map, take, Option, Some, None, refl, sym, ap, ◌∙◌, subst, take-take, length-take-le, option_map, arith, not, take_all, le-ltb, lt-ltb}
use Rattle.std.proofs.lemmas.Bool.{false_from_ne_true}
use Rattle.std.proofs.lemmas.Bool.Decides.{nat_tests}
use Rattle.std.specs.FinMap.{entries, find, get, get-entries}
use Rattle.ipnet_addr.specs.Addresses.{Family, width}
use Rattle.ipnet_addr.proofs.Members.{In}
use Rattle.ipnet_blocks.specs.BitStrings.{begins, bits_cmp}
use Rattle.ipnet_blocks.specs.Blocks.{Block, IsBlock, bit_string}
use Rattle.ipnet_blocks.proofs.BitStrings.{begins_take, take_begins}
use Rattle.least_table.specs.Tables.{longer_route, longest_route, own}
use Rattle.nearest_table.specs.Asked.{NoneInside, at, hop_if, shorter}
use Rattle.least_table.specs.Wholes.{without_own}
use Rattle.nearest_table.specs.Blocks.{around, inner}
use Rattle.nearest_table.proofs.Asked.{asked_law}
use Rattle.route_choices.specs.Choices.{Choice, best_hop}
use Rattle.route_choices.specs.Hops.{number_of}
use Rattle.route_laws.specs.Networks.{Stored, routes_of}
use Rattle.route_laws.specs.Tables.{match_of}
use Rattle.route_laws.proofs.Matches.{bools_same}
use Rattle.route_laws.proofs.Networks.{routes_are_table}
use Rattle.route_table.specs.InnerLeast.{entries_of, entry_of}
use Rattle.route_table.specs.InnerFamilyTables.{IsStored, block_at, stored_at, stored_in}
use Rattle.route_table.proofs.FamilyMap.{nothing_inside, only_itself, is_side}
use Rattle.route_table.proofs.FamilyBits.{blocks_of, match_entry}
use Rattle.route_table.proofs.FamilyTables.{routes_in_family}
use Rattle.route_table.proofs.Searches.{match_at, no_match_at}
use Rattle.route_table.proofs.Strings.{block_at_is_block, string_of_block, tests_agree, begun_same, string-refl, string-true}
use Rattle.trie_core.specs.Inside.{NothingInside}
use Rattle.trie_core.specs.Nodes.{BitMap}
use Rattle.trie_core.specs.Search.{IsLongest, NoBeginning}
use Rattle.trie_core.proofs.Strings.{same}
use Rattle.least_table.specs.Nearest.{same_string}

pub longest_none : (t : List (List Bool × Option ℕ)) (x : List Bool) → ((q : List Bool × Option ℕ) → In q t → begins q.0 x ≡ true → ⊥) → longest_route t x ≡ None
longest_none [] x none = refl
longest_none (d ∷ t) x none = ap (λ c. cond c (longer_route d (longest_route t x)) (longest_route t x)) (false_from_ne_true _ (none d (inl refl))) ∙ longest_none t x (λ q i. none q (inr i))

-- ---- entries as routes

abbrev hop_in : List Choice → Option ℕ
hop_in cs = number_of (best_hop cs)

abbrev entry_in : List Bool × List Choice → List Bool × Option ℕ
entry_in e = (e.0, hop_in e.1)

listed : (f : Family) (es : List (List Bool × List Choice)) → entries_of (routes_of (map (stored_at f) es)) ≡ map entry_in es
listed f [] = refl
listed f (e ∷ es) = let p = string_of_block f e.0 in let q = listed f es in λ i. (p i, hop_in e.1) ∷ q i

at_found : (es : List (List Bool × List Choice)) (s : List Bool) → at (map entry_in es) s ≡ option_map hop_in (find bits_cmp s es)
at_found [] s = refl
at_found (d ∷ es) s =
    ap (λ c. cond c (Some (hop_in d.1)) (at (map entry_in es) s)) (tests_agree d.0 s)
    ∙ elim (same s d.0) as (λ c. cond c (Some (hop_in d.1)) (at (map entry_in es) s) ≡ option_map hop_in (cond c (Some d.1) (find bits_cmp s es))) [ true ↦ refl | false ↦ at_found es s ]

module _ (s : List Bool) where
  none_inside : (es : List (List Bool × List Choice)) → ((e : List Bool × List Choice) → In e es → begins s e.0 ≡ true → e.0 ≡ s) → NoneInside (map entry_in es) s
  none_inside [] h = tt
  none_inside (e ∷ es) h = (h e (inl refl), none_inside es (λ d i. h d (inr i)))

  is_itself : (es : List (List Bool × List Choice)) → NoneInside (map entry_in es) s → (e : List Bool × List Choice) → In e es → begins s e.0 ≡ true → e.0 ≡ s
  is_itself [] h e i b = absurd i
  is_itself (d ∷ es) h e (inl q) b = ap (λ (c : List Bool × List Choice). c.0) q ∙ h.0 (subst (λ (c : List Bool × List Choice). begins s c.0 ≡ true) q b)
  is_itself (d ∷ es) h e (inr i) b = is_itself es h.1 e i b

-- ---- what a search finds

module _ (f : Family) (m : BitMap (List Choice)) (T : List Stored) (is : stored_in f m ≡ T) (s : List Bool) where
  abbrev routes : List (List Bool × Option ℕ)
  routes = entries_of (routes_of T)

  is_listed : routes ≡ map entry_in (entries m)
  is_listed = ap (λ U. entries_of (routes_of U)) (sym is) ∙ listed f (entries m)

  -- the route of exactly this block
  pub own_found : (q : List Bool) → q ≡ s → (o : Option (List Choice)) → o ≡ get m q → option_map hop_in o ≡ own (inner s routes)
  own_found q e o h = ap (option_map hop_in) (h ∙ ap (get m) e ∙ get-entries m s) ∙ sym (at_found (entries m) s) ∙ ap (λ t. at t s) (sym is_listed) ∙ sym (asked_law routes s).0

  -- whether a route is strictly inside
  pub leaf_found : (q : List Bool) → q ≡ s → NothingInside m q ↔ (without_own (inner s routes) ≡ [])
  leaf_found q e = subst (λ k. NothingInside m k ↔ (without_own (inner s routes) ≡ [])) (sym e) (
    λ none. (asked_law routes s).1.1 (subst (λ t. NoneInside t s) (sym is_listed) (none_inside s (entries m) (only_itself m s none))),
    λ h. nothing_inside m s (is_itself s (entries m) (subst (λ t. NoneInside t s) is_listed ((asked_law routes s).1.0 h))),
  )

  -- the longest route of those around is that of the parent
  module _ (ok : IsStored f m) (short : length s ≤ width f) (some : 0 < length s) where
    abbrev up : List Bool
    up = take (length s - 1) s

    long : length up ≡ length s - 1
    long = length-take-le (length s - 1) s (omega arith)

    begins_up : (q : List Bool) → length q < length s → begins q s ≡ begins q up
    begins_up q l =
        let cut : take (length q) up ≡ take (length q) s = take-take (length q) (length s - 1) s (omega (arith, l)) in
        bools_same (begins q s) (begins q up)
        (λ b. subst (λ k. begins k up ≡ true) (cut ∙ (begins_take q s b).1) (take_begins (length q) up))
        (λ b. subst (λ k. begins k s ≡ true) (sym cut ∙ (begins_take q up b).1) (take_begins (length q) s))

    longest_up : (t : List (List Bool × Option ℕ)) → longest_route (shorter (length s) t) s ≡ longest_route t up
    longest_up [] = refl
    longest_up (q ∷ t) = go (nat_lt (length q.0) (length s)) refl (longest_up t)
      where
        go : (c : Bool) → nat_lt (length q.0) (length s) ≡ c → longest_route (shorter (length s) t) s ≡ longest_route t up
            → longest_route (cond c (q ∷ shorter (length s) t) (shorter (length s) t)) s ≡ longest_route (q ∷ t) up
        go true e h = let l : length q.0 < length s = grind (arith, nat_tests, e) in rw (h, begins_up q.0 l) refl
        go false e h = h ∙ sym (ap (λ c. cond c (longer_route q (longest_route t up)) (longest_route t up)) (false_from_ne_true _ (λ b.
            let l : length s ≤ length q.0 = grind (arith, nat_tests, e) in absurd (omega (arith, l, long, some, (begins_take q.0 up b).0)))))

    abbrev n : Block
    n = block_at f up

    okn : IsBlock n
    okn = block_at_is_block f up (omega (arith, long, short))

    around_is : around s None routes ≡ hop_if (option_map entry_of (match_of (routes_of (stored_in f m)) n))
    around_is =
        let table = routes_are_table (stored_in f m) (is_side f m ok).table in
        (asked_law routes s).2
        ∙ ap hop_if (longest_up routes ∙ (λ i. longest_route (entries_of (routes_of (sym is i))) (sym (string_of_block f up) i))
        ∙ match_entry n okn (routes_of (stored_in f m)) (blocks_of f (routes_of (stored_in f m)) table (routes_in_family f (stored_in f m) (is_side f m ok))))

    module _ (q : List Bool) (e : q ≡ up) where
      bits : q ≡ bit_string n
      bits = e ∙ sym (string_of_block f up)

      pub none_around : NoBeginning m q → None ≡ around s None routes
      none_around none = sym (around_is ∙ ap (λ o. hop_if (option_map entry_of o)) (no_match_at n okn m ok (subst (λ k. NoBeginning m k) bits none)))

      pub one_around : (len : ℕ) (cs : List Choice) → IsLongest m q len cs → Some (hop_in cs) ≡ around s None routes
      one_around len cs found = sym (around_is ∙ ap (λ o. hop_if (option_map entry_of o)) (match_at n okn m ok len cs (subst (λ k. IsLongest m k len cs) bits found)))

-- ---- a table of one route

other_string : (c b : List Bool) → (length b ≡ length c → ⊥) → same_string c b ≡ false
other_string c b h = false_from_ne_true _ (λ e. h (ap length (sym (string-true c b e))))

same_as_begun : (c b : List Bool) → length b ≡ length c → same_string c b ≡ begins c b
same_as_begun c b e = bools_same (same_string c b) (begins c b)
    (λ t. subst (λ s. begins s b ≡ true) (take_all (length b) b (omega arith) ∙ sym (string-true c b t)) (take_begins (length b) b))
    (λ t. subst (λ s. same_string c s ≡ true) (sym (begun_same c b t (omega (arith, e)))) (string-refl c))

module _ (c : List Bool) (k : Option ℕ) (b : List Bool) where
  abbrev one : List (List Bool × Option ℕ)
  one = (c, k) ∷ []

  pub own_other : (length b ≡ length c → ⊥) → None ≡ own (inner b one)
  own_other h = sym ((asked_law one b).0 ∙ ap (λ v. cond v (Some k) None) (other_string c b h))

  pub own_told : length b ≡ length c → cond (begins c b) (Some k) None ≡ own (inner b one)
  own_told e = sym ((asked_law one b).0 ∙ ap (λ v. cond v (Some k) None) (same_as_begun c b e))

  by_shorter : around b None one ≡ hop_if (longest_route (cond (nat_lt (length c) (length b)) one []) b)
  by_shorter = (asked_law one b).2

  pub around_none : length b ≤ length c → None ≡ around b None one
  around_none h = sym (by_shorter ∙ ap (λ v. hop_if (longest_route (cond v one []) b)) (le-ltb _ _ h))

  pub around_told : length c < length b → cond (begins c b) (Some k) None ≡ around b None one
  around_told h = sym (by_shorter ∙ ap (λ v. hop_if (longest_route (cond v one []) b)) (lt-ltb _ _ h)
      ∙ elim (begins c b) as (λ v. hop_if (cond v (Some (c, k)) None) ≡ cond v (Some k) None) [ true ↦ refl | false ↦ refl ])

  -- nothing is strictly inside a block that is not shorter
  pub leaf_long : length c ≤ length b → without_own (inner b one) ≡ []
  leaf_long h = (asked_law one b).1.1 ((λ e. begun_same b c e h), tt)

  -- something is strictly inside a shorter block exactly if it contains the network
  pub leaf_short : length b < length c → (v : Bool) → (v ≡ true) ↔ (begins b c ≡ true) → (not v ≡ true) ↔ (without_own (inner b one) ≡ [])
  leaf_short h true m = ((λ e. cc), λ leaf. let z = ap length (((asked_law one b).1.0 leaf).0 (m.0 refl)) in absurd (omega (arith, h, z)))
  leaf_short h false m = ((λ e. (asked_law one b).1.1 ((λ f. let z = m.1 f in cc), tt)), λ leaf. refl)
