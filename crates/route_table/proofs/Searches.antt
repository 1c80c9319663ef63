-- What calls of a side's trie answer, as answers of the side.
use Rattle.std.proofs.Common.{◌≡◌, ◌≤◌, ◌<◌, ℕ, List, length, take, Option, Some, None, refl, sym, ap, ◌∙◌, subst, true, length-take-le, arith, Bool, [], ◌∷◌, map, filter, unwrap_or, Bor, MatchOption, option_map, false, not, nat_eq, take_all, ◌&&◌, cond, is_lt}
use Rattle.std.specs.FinMap.{get, entries, from_entries, len, len-entries, same_map, get-entries, get-from_entries}
use native.Mathlib.Decide.{dec_le}
use Rattle.ipnet_blocks.specs.Blocks.{Block, IsBlock, IsInside, bit_string, is_before, is_inside}
use Rattle.ipnet_addr.proofs.Members.{In}
use Rattle.ipnet_addr.proofs.Ascending.{In-from_Contains, Contains-from_In, In-from_All, All-from_In}
use Rattle.ipnet_blocks.specs.BitStrings.{begins, bits_cmp}
use Rattle.ipnet_blocks.proofs.BitStrings.{begins_take, take_begins}
use Rattle.ipnet_blocks.proofs.Strings.{length-digits, begins_from_inside, inside_from_begins}
use Rattle.route_choices.specs.Choices.{Choice, best_hop, best_preference, has_none}
use Rattle.route_choices.proofs.Kept.{In-map, map_In, all_kept, filter_map_swap, In-from_filter, same_kept}
use Rattle.route_laws.specs.Networks.{Stored, best_route, routes_of, choices_at}
use Rattle.route_laws.specs.Tables.{Route, IsTable, match_of, item_of, match_number, covering, routes_inside}
use Rattle.route_laws.proofs.Matches.{match_meets, match_from, bools_same}
use Rattle.trie_core.specs.Search.{NoBeginning, IsLongest}
use Rattle.trie_core.specs.Nodes.{BitMap}
use Rattle.route_table.specs.InnerFamilyTables.{IsStored, stored_at, stored_in, block_at, route_at}
use Rattle.route_laws.proofs.Networks.{routes_are_table, at_member, at_none}
use Rattle.route_table.proofs.FamilyMap.{has_stored, in_side, is_side, get_of, routes_at}
use Rattle.route_table.proofs.Strings.{block_at_is_block, string_of_block, string_within, inside_is}
use Rattle.std.proofs.lemmas.List.{length-map}
use Rattle.ipnet_addr.specs.Addresses.{Family, width, same_family}
use Rattle.ipnet_blocks.specs.Networks.{Network}
use Rattle.ipnet.specs.IpNets.{net_in, network_at}
use Rattle.trie_core.specs.Bits.{number_from, is_from}
use Rattle.trie_core.proofs.Strings.{bits_total, bits_same}
use Rattle.prefix_trie.specs.Maps.{IsLongestKey}
use Rattle.route_table.specs.Tries.{map_of}
use Rattle.route_laws.specs.Onwards.{count_of, routes_from, routes_after}
use Rattle.ipnet_addr.proofs.Families.{test_from_family}
use Rattle.route_table.proofs.Walked.{network_of_key}
use Rattle.std.proofs.lemmas.Bool.Decides.{nat_tests}
use Rattle.route_choices.specs.Hops.{number_of}
use Rattle.std.specs.FinMap.Entries.{where_key}
use Rattle.trie_core.proofs.Order.{is_less}
use Rattle.ipnet_blocks.proofs.BlockTests.{before_from_test, test_from_before}
use Rattle.ipnet_blocks.proofs.Order.{order_of_strings}
use Rattle.route_table.specs.InnerEntries.{KeysUpTo}

module _ (n : Block) (okn : IsBlock n) (m : BitMap (List Choice)) (ok : IsStored n.family m) where
  abbrev side : List Stored
  side = stored_in n.family m

  abbrev table : IsTable (routes_of side)
  table = routes_are_table side (is_side n.family m ok).table

  -- a best route that contains n stands at a beginning of n's string
  best_at : (r : Route) → In r (routes_of side) → IsInside n r.block → (r.block.len ≤ length (bit_string n)) × ((cs : List Choice) × (get m (take r.block.len (bit_string n)) ≡ Some cs))
  best_at r i h =
      let t = In-map best_route side r i in
      let s = has_stored n.family m ok t.0 t.1 in
      let e : r.block ≡ Stored.block t.0 = ap Route.block t.2 in
      let b = begins_take (bit_string r.block) (bit_string n) (begins_from_inside n r.block okn (subst IsBlock (sym e) s.block) h) in
      let l = length-digits r.block.len r.block.quotient in (
        omega (arith, b.0, l),
        (Stored.choices t.0, ap (get m) (ap (λ k. take k (bit_string n)) (sym l) ∙ b.1 ∙ ap (λ (d : Block). bit_string d) e) ∙ s.stored),
      )

  pub no_match_at : NoBeginning m (bit_string n) → match_of (routes_of side) n ≡ None
  no_match_at none = go (match_of (routes_of side) n) refl
    where
      go : (o : Option Route) → match_of (routes_of side) n ≡ o → o ≡ None
      go None e = refl
      go (Some r) e =
          let w = match_meets (routes_of side) table n okn r e in
          let b = best_at r (In-from_Contains (routes_of side) r w.member) w.holds in
          absurd (let f = sym b.1.1 ∙ none r.block.len b.0 in cc)

  pub match_at : (len : ℕ) (cs : List Choice) → IsLongest m (bit_string n) len cs → match_of (routes_of side) n ≡ Some (best_route (stored_at n.family (take len (bit_string n), cs)))
  match_at len cs found = match_from (routes_of side) table n okn (best_route s) (record {
    member = Contains-from_In (routes_of side) (best_route s) (map_In best_route side s (in_side n.family m ok s (record { family = refl; block = okb; stored = ap (get m) bits ∙ found.found })));
    holds = inside_from_begins n s.block okn okb refl (subst (λ k. begins k (bit_string n) ≡ true) (sym bits) (take_begins len (bit_string n)));
    longest = λ r c i. go r (best_at r (In-from_Contains (routes_of side) r c) i) (dec_le r.block.len s.block.len);
  })
    where
      s : Stored
      s = stored_at n.family (take len (bit_string n), cs)

      long : length (take len (bit_string n)) ≡ len
      long = length-take-le len (bit_string n) found.within

      okb : IsBlock s.block
      okb = block_at_is_block n.family (take len (bit_string n)) (omega (arith, long, found.within, string_within n okn))

      bits : bit_string s.block ≡ take len (bit_string n)
      bits = string_of_block n.family (take len (bit_string n))

      go : (r : Route) → (r.block.len ≤ length (bit_string n)) × ((cs : List Choice) × (get m (take r.block.len (bit_string n)) ≡ Some cs)) → Dec (r.block.len ≤ s.block.len) → r.block.len ≤ s.block.len
      go r a (yes l) = l
      go r a (no not_it) = absurd (let l : len < r.block.len = grind (arith, not_it, long) in let f = sym a.1.1 ∙ found.longest r.block.len l a.0 in cc)

-- ---- the longest match

module _ (n : Block) (okn : IsBlock n) (m : BitMap (List Choice)) (ok : IsStored n.family m) (T : List Stored) (is : stored_in n.family m ≡ T) (q : List Bool) (same : q ≡ bit_string n)
    {K : Type 0} (fits : K → Bool) (bits : K → List Bool) (of_bits : List Bool → K) (parts : K → Network) (parts_are : (s : List Bool) → parts (of_bits s) ≡ record { number = number_from (width n.family) s; len = length s }) where
  -- what a search of the trie finds, as what the side finds
  pub longest_is : (o : Option (K × Bor (List Choice))) → MatchOption o (NoBeginning m q) (λ r. IsLongestKey fits bits of_bits m q r.0 r.1.now)
      → option_map (λ r. (net_in n.family (parts r.0), best_hop r.1.now, best_preference r.1.now)) o ≡ option_map item_of (match_of (routes_of T) n)
  longest_is None none = sym (ap (option_map item_of) (ap (λ U. match_of (routes_of U) n) (sym is) ∙ no_match_at n okn m ok (subst (λ k. NoBeginning m k) same none)))
  longest_is (Some r) l =
      let s = bits r.0 in
      let found = subst (λ k. IsLongest m k (length s) r.1.now) same l.longest in
      let w : length s ≤ width n.family = omega (arith, found.within, string_within n okn) in
      let net = network_of_key n.family bits of_bits parts parts_are r.0 l.rebuilt w ∙ ap (λ t. network_at (block_at n.family t)) (l.beginning ∙ ap (take (length s)) same) in
      ap (λ x. Some (x, best_hop r.1.now, best_preference r.1.now)) net ∙ sym (ap (option_map item_of) (ap (λ U. match_of (routes_of U) n) (sym is) ∙ match_at n okn m ok (length s) r.1.now found))

-- ---- what is stored

choices_are : (b : Block) → IsBlock b → (m : BitMap (List Choice)) → IsStored b.family m → choices_at (stored_in b.family m) b ≡ unwrap_or (get m (bit_string b)) []
choices_are b okb m ok = go (get m (bit_string b)) refl
  where
    go : (o : Option (List Choice)) → get m (bit_string b) ≡ o → choices_at (stored_in b.family m) b ≡ unwrap_or o []
    go None q = at_none (stored_in b.family m) (is_side b.family m ok).table b (λ s i e. let h = has_stored b.family m ok s i in let f = sym (ap (λ (d : Block). get m (bit_string d)) (sym e) ∙ h.stored) ∙ q in cc)
    go (Some cs) q = at_member (stored_in b.family m) (is_side b.family m ok).table (record { block = b; choices = cs }) (in_side b.family m ok (record { block = b; choices = cs }) (record { family = refl; block = okb; stored = q }))

-- what stands at the key of the block
pub at_key : (b : Block) → IsBlock b → (m : BitMap (List Choice)) → IsStored b.family m → (T : List Stored) → stored_in b.family m ≡ T → (s : List Bool) → s ≡ bit_string b
    → (o : Option (List Choice)) → o ≡ get m s → choices_at T b ≡ unwrap_or o []
at_key b okb m ok T is s bits o e = ap (λ U. choices_at U b) (sym is) ∙ choices_are b okb m ok ∙ ap (λ k. unwrap_or (get m k) []) (sym bits) ∙ ap (λ x. unwrap_or x []) (sym e)

-- ---- the map of a side

module _ (f : Family) (m : BitMap (List Choice)) (ok : IsStored f m) (T : List Stored) (is : stored_in f m ≡ T) where
  -- all of its networks are of its family
  of_family : filter (λ (s : Stored). same_family s.block.family f) (stored_in f m) ≡ stored_in f m
  of_family = all_kept (λ (s : Stored). same_family s.block.family f) (stored_in f m)
      (λ s i. ap (λ g. same_family g f) (In-from_All (λ (s : Stored). s.block.family ≡ f) (stored_in f m) (is_side f m ok).family s i) ∙ test_from_family f f refl)

  pub count_is : len m ≡ count_of f (routes_of T)
  count_is = len-entries m ∙ sym (
      ap length (filter_map_swap best_route (λ r. same_family r.block.family f) (stored_in f m) ∙ ap (map best_route) of_family)
      ∙ length-map (stored_in f m) best_route ∙ length-map (entries m) (stored_at f)) ∙ ap (λ U. count_of f (routes_of U)) is

  keys_back : (es : List (List Bool × List Choice)) → map (λ (s : Stored). (bit_string s.block, s.choices)) (map (stored_at f) es) ≡ es
  keys_back [] = refl
  keys_back (e ∷ es) = let p = string_of_block f e.0 in let q = keys_back es in λ i. (p i, e.1) ∷ q i

  -- a side has the map that it was made of
  pub map_is : m ≡ map_of f T
  unfolding map_of
  map_is =
      same_map bits_total bits_same _ _ (λ q. get-entries m q ∙ sym (get-from_entries bits_total (entries m) q))
      ∙ sym (ap (λ ss. from_entries {R = bits_cmp} (map (λ (s : Stored). (bit_string s.block, s.choices)) ss)) of_family
      ∙ ap (λ es. from_entries {R = bits_cmp} es) (keys_back (entries m)))
      ∙ ap (map_of f) is

-- ---- the hop of a match, and whether the network itself is stored

module _ (n : Block) (okn : IsBlock n) (m : BitMap (List Choice)) (ok : IsStored n.family m) (T : List Stored) (is : stored_in n.family m ≡ T)
    (s : List Bool) (bits : s ≡ bit_string n) where
  whole : take (length s) s ≡ s
  whole = take_all (length s) s (omega arith)

  absent : get m (take (length s) s) ≡ None → false ≡ not (has_none (choices_at T n))
  absent e = sym (ap (λ cs. not (has_none cs)) (at_key n okn m ok T is s bits None (sym (ap (get m) (sym whole) ∙ e))))

  pub nothing_found : NoBeginning m s → (None ≡ match_number (match_of (routes_of T) n)) × (false ≡ not (has_none (choices_at T n)))
  nothing_found none = (
    sym (ap match_number (ap (λ U. match_of (routes_of U) n) (sym is) ∙ no_match_at n okn m ok (subst (λ k. NoBeginning m k) bits none))),
    absent (none (length s) (omega arith)),
  )

  module _ (len : ℕ) (cs : List Choice) (found : IsLongest m s len cs) where
    pub found_number : number_of (best_hop cs) ≡ match_number (match_of (routes_of T) n)
    found_number = sym (ap match_number (match_at n okn m ok len cs (subst (λ k. IsLongest m k len cs) bits found))) ∙ ap (λ U. match_number (match_of (routes_of U) n)) is

    pub found_itself : nat_eq len (length s) ≡ not (has_none (choices_at T n))
    found_itself = go (nat_eq len (length s)) refl
      where
        present : (ds : List Choice) → (ds ≡ [] → ⊥) → true ≡ not (has_none ds)
        present [] some = absurd (some refl)
        present (d ∷ ds) some = refl

        go : (b : Bool) → nat_eq len (length s) ≡ b → b ≡ not (has_none (choices_at T n))
        go true e =
            let z : len ≡ length s = grind (arith, nat_tests) in
            let own : get m s ≡ Some cs = ap (get m) (sym whole) ∙ ap (λ k. get m (take k s)) (sym z) ∙ found.found in
            present cs (ok.some s cs own) ∙ sym (ap (λ ds. not (has_none ds)) (at_key n okn m ok T is s bits (Some cs) (sym own)))
        go false e = let w = found.within in let l : len < length s = grind (arith, nat_tests) in absent (found.longest (length s) l (omega arith))

  -- the hop of the network itself, which is stored
  pub number_of_own : (cs : List Choice) → Some cs ≡ get m s → number_of (best_hop cs) ≡ match_number (match_of (routes_of T) n)
  number_of_own cs e = found_number (length s) cs (record { within = omega arith; found = ap (get m) whole ∙ sym e; longest = λ k l u. absurd (omega (arith, l, u)) })

-- what the search says of the choices of the network
pub some_there : (cs : List Choice) (stored : Bool) → stored ≡ not (has_none cs) → stored ≡ true → cs ≡ [] → ⊥
some_there [] stored e t z = let f = sym e ∙ t in cc
some_there (c ∷ cs) stored e t z = cc

pub none_there : (cs : List Choice) (stored : Bool) → stored ≡ not (has_none cs) → stored ≡ false → cs ≡ []
none_there [] stored e f = refl
none_there (c ∷ cs) stored e f = absurd (let g = sym e ∙ f in cc)

-- ---- parts of a walk

-- ---- the order of blocks, as a test of keys

before_is : (a b : Block) → IsBlock a → IsBlock b → a.family ≡ b.family → is_before a b ≡ is_lt (bits_cmp (bit_string a) (bit_string b))
before_is a b p q f = bools_same (is_before a b) (is_lt (bits_cmp (bit_string a) (bit_string b)))
    (λ t. ap is_lt ((order_of_strings a b p q f).0 (before_from_test a b t)))
    (λ t. test_from_before a b ((order_of_strings a b p q f).1 (is_less (bits_cmp (bit_string a) (bit_string b)) t)))

-- ---- parts of a walk

abbrev routes_in : Family → List (List Bool × List Choice) → List Route
routes_in f es = map (route_at f) es

-- a test of routes that is a test of keys
filter_routes : (f : Family) (p : Route → Bool) (q : List Bool × List Choice → Bool) (es : List (List Bool × List Choice)) → ((e : List Bool × List Choice) → In e es → p (route_at f e) ≡ q e) → filter p (routes_in f es) ≡ map (route_at f) (filter q es)
filter_routes f p q es h = filter_map_swap (route_at f) p es ∙ ap (map (route_at f)) (same_kept (λ e. p (route_at f e)) q es h)

-- no listed key is longer than an address
pub listed_keys : (f : Family) (m : BitMap (List Choice)) → IsStored f m → (p : List Bool → Bool) (es : List (List Bool × List Choice)) → es ≡ where_key bits_cmp p (entries m) → KeysUpTo (width f) es
listed_keys f m ok p es e = All-from_In (λ (d : List Bool × List Choice). length d.0 ≤ width f) es (λ d i.
    let j = In-from_filter (λ (x : List Bool × List Choice). p x.0) (entries m) d (subst (λ xs. In d xs) e i) in
    ok.within d.0 d.1 (get_of m d.0 d.1 j.0))

pub all_keys : (f : Family) (m : BitMap (List Choice)) → IsStored f m → (es : List (List Bool × List Choice)) → es ≡ entries m → KeysUpTo (width f) es
all_keys f m ok es e = All-from_In (λ (d : List Bool × List Choice). length d.0 ≤ width f) es (λ d i. ok.within d.0 d.1 (get_of m d.0 d.1 (subst (λ xs. In d xs) e i)))

pub all_routes : (f : Family) (m : BitMap (List Choice)) (T : List Stored) → stored_in f m ≡ T → (es : List (List Bool × List Choice)) → es ≡ entries m → map (route_at f) es ≡ routes_of T
all_routes f m T is es e = ap (map (route_at f)) e ∙ routes_at f (entries m) ∙ ap routes_of is

module _ (n : Block) (okn : IsBlock n) (m : BitMap (List Choice)) (ok : IsStored n.family m) where
  abbrev key_block : List Bool × List Choice → Block
  key_block e = block_at n.family e.0

  okb : (e : List Bool × List Choice) → In e (entries m) → IsBlock (key_block e)
  okb e i = block_at_is_block n.family e.0 (ok.within e.0 e.1 (get_of m e.0 e.1 i))

  -- the routes inside n are the entries whose keys n's string begins
  pub inside_are : routes_inside (routes_in n.family (entries m)) n ≡ map (route_at n.family) (filter (λ e. begins (bit_string n) e.0) (entries m))
  inside_are = filter_routes n.family (λ r. is_inside r.block n) (λ e. begins (bit_string n) e.0) (entries m)
      (λ e i. inside_is (key_block e) n (okb e i) okn refl ∙ ap (begins (bit_string n)) (string_of_block n.family e.0))

  -- the routes that contain n are the entries whose keys begin n's string
  pub covering_are : covering (routes_in n.family (entries m)) n ≡ map (route_at n.family) (filter (λ e. begins e.0 (bit_string n)) (entries m))
  covering_are = filter_routes n.family (λ r. is_inside n r.block) (λ e. begins e.0 (bit_string n)) (entries m)
      (λ e i. inside_is n (key_block e) okn (okb e i) refl ∙ ap (λ s. begins s (bit_string n)) (string_of_block n.family e.0))

  -- the routes from n on, or after it, are the entries with such keys
  pub onwards_are : (inclusive : Bool) → cond inclusive (routes_from (routes_in n.family (entries m)) n) (routes_after (routes_in n.family (entries m)) n) ≡ map (route_at n.family) (filter (λ e. is_from (bit_string n) inclusive e.0) (entries m))
  onwards_are true = filter_routes n.family (λ r. same_family r.block.family n.family && not (is_before r.block n)) (λ e. not (is_lt (bits_cmp e.0 (bit_string n)))) (entries m)
      (λ e i. ap (λ b. b && not (is_before (key_block e) n)) (test_from_family n.family n.family refl) ∙ ap not (before_is (key_block e) n (okb e i) okn refl ∙ ap (λ s. is_lt (bits_cmp s (bit_string n))) (string_of_block n.family e.0)))
  onwards_are false = filter_routes n.family (λ r. same_family r.block.family n.family && is_before n r.block) (λ e. is_lt (bits_cmp (bit_string n) e.0)) (entries m)
      (λ e i. ap (λ b. b && is_before n (key_block e)) (test_from_family n.family n.family refl) ∙ before_is n (key_block e) okn (okb e i) refl ∙ ap (λ s. is_lt (bits_cmp (bit_string n) s)) (string_of_block n.family e.0))

  -- what walks of the trie list, as parts of the side
  module _ (T : List Stored) (is : stored_in n.family m ≡ T) (s : List Bool) (same : s ≡ bit_string n) (es : List (List Bool × List Choice)) where
    pub listed : es ≡ where_key bits_cmp (begins s) (entries m) → map (route_at n.family) es ≡ routes_inside (routes_of T) n
    listed h = ap (map (route_at n.family)) (h ∙ ap (λ t. filter (λ (x : List Bool × List Choice). begins t x.0) (entries m)) same) ∙ sym inside_are ∙ ap (λ M. routes_inside M n) (routes_at n.family (entries m) ∙ ap routes_of is)

    pub covered : es ≡ where_key bits_cmp (λ k. begins k s) (entries m) → map (route_at n.family) es ≡ covering (routes_of T) n
    covered h = ap (map (route_at n.family)) (h ∙ ap (λ t. filter (λ (x : List Bool × List Choice). begins x.0 t) (entries m)) same) ∙ sym covering_are ∙ ap (λ M. covering M n) (routes_at n.family (entries m) ∙ ap routes_of is)

    pub walked : (inclusive : Bool) → es ≡ where_key bits_cmp (is_from s inclusive) (entries m) → map (route_at n.family) es ≡ cond inclusive (routes_from (routes_of T) n) (routes_after (routes_of T) n)
    walked inclusive h = ap (map (route_at n.family)) (h ∙ ap (λ t. filter (λ (x : List Bool × List Choice). is_from t inclusive x.0) (entries m)) same) ∙ sym (onwards_are inclusive) ∙ ap (λ M. cond inclusive (routes_from M n) (routes_after M n)) (routes_at n.family (entries m) ∙ ap routes_of is)
