-- Searches along a string: by masks within a node, and from node to node.
use Rattle.std.proofs.Common.{◌≡◌, ℕ, zero, suc, ◌+◌, ◌-◌, ◌*◌, ◌/◌, ◌%◌, ◌^◌, ◌<◌, ◌≤◌, Bool, true, cond, List, [], ◌∷◌, ◌++◌, length, take, drop, get_or, sym, ap, subst, ◌∙◌, inl, inr, Option, Some, None, MatchOption, bit_and, count_ones, nat_cmp, take-append-drop, drop-drop, append_assoc, length-take, length-drop, take-add, arith}
use Rattle.std.specs.Int.{bit_at, w32, leading_zeros}
use Rattle.std.specs.FinMap.{find, get}
use Rattle.std.proofs.lemmas.Nat.{leading_top}
use Rattle.std.proofs.lemmas.Nat.Bits.{bit_at_and, bit_at-lt, bit_at_above, bit_at-zero}
use Rattle.std.proofs.Math.Nat.{div-eq_of_lt-le}
use Rattle.trie_core.specs.InnerPlaces.{place_from, place_of, place_string, IsBeginMask, at_places, IsLastPlace, IsFirstPlace}
use Rattle.trie_core.specs.Nodes.{BitMap, Seen}
use Rattle.trie_core.specs.Count.{node_visits}
use Rattle.trie_core.specs.Search.{NoBeginning, IsLongest, IsShortest}
use Rattle.trie_core.specs.InnerSearch.{NoneBelow, IsLongestBelow, IsChild, HasNoChild}
use Rattle.trie_core.proofs.Numbers.{place_strings}
use Rattle.ipnet_blocks.proofs.BitStrings.{begins_take, take_begins}
use Rattle.trie_core.proofs.Taken.{taken, missing}
use Rattle.trie_core.proofs.Seen.{IsSeen, value_at}
use Rattle.std.proofs.lemmas.Bool.{cases_lt}

-- ---- the ends of a word

pub last_place : (a : ℕ) → 0 < a → a < 2 ^ 32 → IsLastPlace a (31 - leading_zeros w32 a)
last_place a h b =
    let t = leading_top 32 a h b in
    let e : 31 - leading_zeros w32 a ≡ t.0 = omega (arith, t.1) in
    subst (IsLastPlace a) (sym e) (record {
      within = omega (arith, t.1);
      taken = top_bit a t.0 t.2 t.3;
      above = λ i l. bit_at_above a (suc t.0) i t.3 (omega (arith, l));
    })
  where
    top_bit : (a j : ℕ) → 2 ^ j ≤ a → a < 2 ^ suc j → bit_at a j ≡ 1
    top_bit a j l m =
        let d : 2 ^ suc j ≡ 2 * 2 ^ j = omega arith in
        let o : a / 2 ^ j ≡ 1 = div-eq_of_lt-le (2 ^ j) (omega (arith, l)) (omega (arith, d, m)) in
        ap (λ n. n % 2) o

-- ---- beginnings

-- a longer beginning has a higher place
place_rises : (k : ℕ) (j n : ℕ) (q : List Bool) → n < j → j ≤ length q → j < k → place_from k (take n q) < place_from k (take j q)
place_rises zero j n q h l m = absurd (omega (arith, m))
place_rises (suc k) zero n q h l m = absurd (omega (arith, h))
place_rises (suc k) (suc j) n [] h l m = absurd (omega (arith, l))
place_rises (suc k) (suc j) zero (b ∷ q) h l m = omega arith
place_rises (suc k) (suc j) (suc n) (b ∷ q) h l m = omega (arith, place_rises k j n q (omega (arith, h)) (omega (arith, l)) (omega (arith, m)))

pub both_set : (a b i : ℕ) → bit_at (bit_and a b) i ≡ 1 → (bit_at a i ≡ 1) × (bit_at b i ≡ 1)
both_set a b i e = (omega (arith, bit_at_and a b i, e, bit_at-lt a i, bit_at-lt b i), omega (arith, bit_at_and a b i, e, bit_at-lt a i, bit_at-lt b i))

pub below_31 : (vb n : ℕ) → vb < 2 ^ 31 → bit_at vb n ≡ 1 → n < 31
below_31 vb n h e = elim (cases_lt n 31) [
  | inl l ↦ l
  | inr l ↦ let z = bit_at_above vb 31 n h l in absurd (omega (arith, z, e))
]

abbrev bit_if : Bool → ℕ
bit_if b = cond b 1 0

one_if : (b : Bool) → bit_if b ≡ 1 → b ≡ true
one_if b e = grind arith

-- ---- within a node

-- the word and the mask of the beginnings of q have the same bit where one of them stands
pub met_beginning : (vb mask : ℕ) (q : List Bool) → IsBeginMask q mask → (k : ℕ) → k < 5 → k ≤ length q → bit_at (bit_and vb mask) (place_of (take k q)) ≡ bit_at vb (place_of (take k q))
met_beginning vb mask q f k h l =
    let n = place_of (take k q) in
    omega (arith, bit_at_and vb mask n, bit_at-lt vb n, f (take k q) (omega (arith, length-take k q, h)) ∙ ap (λ b. cond b 1 0) (take_begins k q))

-- where both have a bit a beginning stands
pub record IsMet (vb n : ℕ) (q : List Bool) : Type 0 where
  pub below : n < 31
  pub stored : bit_at vb n ≡ 1
  pub within : length (place_string n) ≤ length q
  pub begins : take (length (place_string n)) q ≡ place_string n
  pub short : length (place_string n) < 5
  pub place : place_of (place_string n) ≡ n

pub met_place : (vb mask : ℕ) (q : List Bool) → vb < 2 ^ 31 → IsBeginMask q mask → (n : ℕ) → bit_at (bit_and vb mask) n ≡ 1 → IsMet vb n q
met_place vb mask q h f n e =
    let t = both_set vb mask n e in
    let l = below_31 vb n h t.0 in
    let p = place_strings n l in
    let b = begins_take (place_string n) q (one_if _ (sym (f (place_string n) p.short) ∙ ap (bit_at mask) p.place ∙ t.1)) in
    record { below = l; stored = t.0; within = b.0; begins = b.1; short = p.short; place = p.place }

module _ {X : Type 0} where
  pub unset_none : {vb : ℕ} {vs : List X} {cb : ℕ} {cs : List (Seen X)} {m : Seen X} (q : List Bool) (k : ℕ) → IsSeen vb vs cb cs m → k < 5 → bit_at vb (place_of (take k q)) ≡ 0 → get m.entries (take k q) ≡ None
  unset_none {vb} {vs} q k s h z = sym (value_at (take k q) s (omega (arith, length-take k q, h))) ∙ sym (missing (place_of (take k q)) vb vs z)

  -- no beginning of fewer than five bits is a key
  pub none_here : {vb : ℕ} {vs : List X} {cb : ℕ} {cs : List (Seen X)} {m : Seen X} (q : List Bool) (mask : ℕ) → IsSeen vb vs cb cs m → IsBeginMask q mask → bit_and vb mask ≡ 0 → NoneBelow m.entries q 5
  none_here {vb} q mask s f z k h l = unset_none q k s h (sym (met_beginning vb mask q f k h l) ∙ ap (λ n. bit_at n (place_of (take k q))) z ∙ bit_at-zero (place_of (take k q)))

  pub found_here : {vb : ℕ} {vs : List X} {cb : ℕ} {cs : List (Seen X)} {m : Seen X} (q : List Bool) (n at : ℕ) (v : X) → IsSeen vb vs cb cs m → IsMet vb n q → at ≡ count_ones (vb % 2 ^ n) → v ≡ get_or vs at v → get m.entries (take (length (place_string n)) q) ≡ Some v
  found_here {vb} {vs} {m = m} q n at v s e a r =
      let t = taken n at vb vs (omega (arith, e.below)) (e.stored, a) s.slots.values_counted in
      ap (get m.entries) e.begins
      ∙ sym (value_at (place_string n) s e.short)
      ∙ ap (λ i. find nat_cmp i (at_places 32 0 vb vs)) e.place
      ∙ t.read v ∙ ap Some (sym r)

  pub index_here : {vb : ℕ} {vs : List X} {cb : ℕ} {cs : List (Seen X)} {m : Seen X} (q : List Bool) (mask n at : ℕ) → IsSeen vb vs cb cs m → IsBeginMask q mask → bit_at (bit_and vb mask) n ≡ 1 → at ≡ count_ones (vb % 2 ^ n) → (at < length vs) × (n < 31)
  index_here {vb} {vs} q mask n at s f e a =
      let t = met_place vb mask q s.slots.values_below f n e in
      ((taken n at vb vs (omega (arith, t.below)) (t.stored, a) s.slots.values_counted).within, t.below)

  pub longest_here : {vb : ℕ} {vs : List X} {cb : ℕ} {cs : List (Seen X)} {m : Seen X} (q : List Bool) (mask n at len : ℕ) (v : X) → IsSeen vb vs cb cs m → IsBeginMask q mask → IsLastPlace (bit_and vb mask) n → at ≡ count_ones (vb % 2 ^ n) → len ≡ length (place_string n) → v ≡ get_or vs at v
      → IsLongestBelow m.entries q 5 len v
  longest_here {vb} {vs} {m = m} q mask n at len v s f e a l r =
      let t = met_place vb mask q s.slots.values_below f n e.taken in
      record {
        below = omega (arith, l, t.short);
        within = omega (arith, l, t.within);
        found = ap (λ i. get m.entries (take i q)) l ∙ found_here q n at v s t a r;
        longest = λ k h j i.
            let p : n < place_of (take k q) = omega (arith, sym t.place, ap place_of t.begins, place_rises 5 k (length (place_string n)) q (omega (arith, l, h)) i j) in
            unset_none q k s j (sym (met_beginning vb mask q f k j i) ∙ e.above (place_of (take k q)) p);
      }

  pub shortest_here : {vb : ℕ} {vs : List X} {cb : ℕ} {cs : List (Seen X)} {m : Seen X} (q : List Bool) (mask n at len : ℕ) (v : X) → IsSeen vb vs cb cs m → IsBeginMask q mask → IsFirstPlace (bit_and vb mask) n → at ≡ count_ones (vb % 2 ^ n) → len ≡ length (place_string n) → v ≡ get_or vs at v
      → (len < 5) × IsShortest m.entries q len v
  shortest_here {vb} {vs} {m = m} q mask n at len v s f e a l r =
      let t = met_place vb mask q s.slots.values_below f n e.taken in (
        omega (arith, l, t.short),
        record {
          within = omega (arith, l, t.within);
          found = ap (λ i. get m.entries (take i q)) l ∙ found_here q n at v s t a r;
          shortest = λ k h.
              let j : k < 5 = omega (arith, l, t.short, h) in
              let i : k ≤ length q = omega (arith, l, t.within, h) in
              let p : place_of (take k q) < n = omega (arith, sym t.place, ap place_of t.begins, place_rises 5 (length (place_string n)) k q (omega (arith, l, h)) t.within t.short) in
              unset_none q k s j (sym (met_beginning vb mask q f k j i) ∙ e.under (place_of (take k q)) p);
        },
      )

-- ---- from node to node

module _ {X : Type 0} where
  -- n is the node at depth d on the way to q in m, and p what is left of the way
  pub record IsAt (m : Seen X) (q : List Bool) (d : ℕ) (n : Seen X) (p : List Bool) : Type 0 where
    pub within : d ≤ length q
    pub rest : p ≡ drop d q
    pub gets : (r : List Bool) → get n.entries r ≡ get m.entries (take d q ++ r)

  pub at_child : {m n c : Seen X} {q p r : List Bool} (d : ℕ) → IsAt m q d n p → 5 ≤ length p → IsChild p n c → r ≡ drop 5 p → IsAt m q (d + 5) c r
  at_child {m} {n} {c} {q} {p} {r} d a h e f = record {
    within = omega (arith, ap length a.rest, length-drop d q, h);
    rest = f ∙ ap (drop 5) a.rest ∙ drop-drop 5 d q;
    gets = λ k.
        sym (e.gets k) ∙ a.gets (take 5 p ++ k)
        ∙ ap (λ w. get m.entries (take d q ++ (take 5 w ++ k))) a.rest
        ∙ ap (get m.entries) (sym (append_assoc (take d q) (take 5 (drop d q)) k) ∙ ap (λ w. w ++ k) (sym (take-add d 5 q)));
  }

  -- the beginnings of q from depth d on are those of p
  later : {m n : Seen X} {q p : List Bool} (d k : ℕ) → IsAt m q d n p → get m.entries (take (d + k) q) ≡ get n.entries (take k p)
  later {m} {n} {q} {p} d k a = ap (get m.entries) (take-add d k q ∙ ap (λ w. take d q ++ take k w) (sym a.rest)) ∙ sym (a.gets (take k p))

  pub way_left : {m n : Seen X} {q p : List Bool} (d : ℕ) → IsAt m q d n p → length q ≡ d + length p
  way_left {q = q} d a = omega (arith, ap length a.rest, length-drop d q, a.within)

  -- from depth d on
  deeper : {m n : Seen X} {q p : List Bool} (d k : ℕ) → IsAt m q d n p → d ≤ k → get m.entries (take k q) ≡ get n.entries (take (k - d) p)
  deeper {m} {q = q} d k a h = let z : d + (k - d) ≡ k = omega arith in ap (λ j. get m.entries (take j q)) (sym z) ∙ later d (k - d) a

  pub none_deeper : {m n : Seen X} {q p : List Bool} (d high : ℕ) → IsAt m q d n p → NoneBelow m.entries q d → NoneBelow n.entries p high → NoneBelow m.entries q (d + high)
  none_deeper d high a f g k h l = elim (cases_lt k d) [
    | inl e ↦ f k e l
    | inr e ↦ deeper d k a e ∙ g (k - d) (omega arith) (omega (arith, way_left d a))
  ]

  pub found_deeper : {m n : Seen X} {q p : List Bool} (d len : ℕ) {v : X} → IsAt m q d n p → IsLongestBelow n.entries p 5 len v → IsLongestBelow m.entries q (d + 5) (d + len) v
  found_deeper {m} {n} {q} {p} d len a f = record {
    below = omega (arith, f.below);
    within = omega (arith, f.within, way_left d a);
    found = later d len a ∙ f.found;
    longest = λ k h j i. deeper d k a (omega arith) ∙ f.longest (k - d) (omega arith) (omega arith) (omega (arith, way_left d a));
  }

  module _ {S : Type 0} (v : S → X) where
    -- the best of the beginnings of q of fewer than high bits
    abbrev pub IsBest : BitMap X → List Bool → ℕ → Option (ℕ × S) → Type 0
    IsBest m q high o = MatchOption o (NoneBelow m q high) (λ r. IsLongestBelow m q high r.0 (v r.1))

    pub best_whole : (m : BitMap X) (q : List Bool) (high : ℕ) (o : Option (ℕ × S)) → length q < high → IsBest m q high o → MatchOption o (NoBeginning m q) (λ r. IsLongest m q r.0 (v r.1))
    best_whole m q high None h f = λ k l. f k (omega (arith, h, l)) l
    best_whole m q high (Some r) h f = record { within = f.within; found = f.found; longest = λ k i l. f.longest k i (omega (arith, h, l)) l }

    -- where no node is below, the best so far is the best
    pub best_stop : {m n : Seen X} {q p : List Bool} (d : ℕ) (o : Option (ℕ × S)) → IsAt m q d n p → 5 ≤ length p → HasNoChild p n → IsBest m.entries q (d + 5) o → MatchOption o (NoBeginning m.entries q) (λ r. IsLongest m.entries q r.0 (v r.1))
    best_stop {m} {n} {q} {p} d o a h e f = best_whole m.entries q (length q + 1) o (omega arith) (stopped o f)
      where
        beyond : (k : ℕ) → d + 5 ≤ k → get m.entries (take k q) ≡ None
        beyond k l =
            let z : k - d ≡ 5 + (k - d - 5) = omega arith in
            deeper d k a (omega arith) ∙ ap (get n.entries) (ap (λ j. take j p) z ∙ take-add 5 (k - d - 5) p) ∙ e.gets (take (k - d - 5) (drop 5 p))

        either : (k : ℕ) → (k < d + 5 → get m.entries (take k q) ≡ None) → get m.entries (take k q) ≡ None
        either k f = elim (cases_lt k (d + 5)) [
          | inl t ↦ f t
          | inr t ↦ beyond k t
        ]

        stopped : (o : Option (ℕ × S)) → IsBest m.entries q (d + 5) o → IsBest m.entries q (length q + 1) o
        stopped None f = λ k h l. either k (λ i. f k i l)
        stopped (Some r) f = record { below = omega (arith, f.within); within = f.within; found = f.found; longest = λ k i h l. either k (λ j. f.longest k i j l) }

  -- ---- the shortest

  pub shortest_deeper : {m n : Seen X} {q p : List Bool} (d len : ℕ) {v : X} → IsAt m q d n p → NoneBelow m.entries q d → IsShortest n.entries p len v → IsShortest m.entries q (d + len) v
  shortest_deeper {m} {n} {q} {p} d len a f g = record {
    within = omega (arith, g.within, way_left d a);
    found = later d len a ∙ g.found;
    shortest = λ k h. elim (cases_lt k d) [
      | inl e ↦ f k e (omega (arith, g.within, way_left d a))
      | inr e ↦ deeper d k a e ∙ g.shortest (k - d) (omega arith)
    ];
  }

  -- ---- one string

  pub no_child_get : {n : Seen X} {q : List Bool} → HasNoChild q n → get n.entries q ≡ None
  no_child_get {n} {q} e = ap (get n.entries) (sym (take-append-drop 5 q)) ∙ e.gets (drop 5 q)

  -- one more from the node than from its child on the way
  pub child_visits : {n c : Seen X} {q r : List Bool} → IsChild q n c → r ≡ drop 5 q → node_visits n.entries n.spares q ≡ node_visits c.entries c.spares r + 1
  child_visits {n} {c} {q} e f = ap (node_visits n.entries n.spares) (sym (take-append-drop 5 q)) ∙ e.visits (drop 5 q) ∙ ap (λ w. node_visits c.entries c.spares w + 1) (sym f)

  pub none_stop : {m n : Seen X} {q p : List Bool} (d : ℕ) → IsAt m q d n p → 5 ≤ length p → HasNoChild p n → NoneBelow m.entries q (d + 5) → NoBeginning m.entries q
  none_stop d a h e f = best_stop {S = X} (λ s. s) d None a h e f
