-- The entries whose keys begin a string, one after another.
use Rattle.std.proofs.Common.{◌≡◌, ℕ, ◌+◌, ◌-◌, ◌*◌, ◌/◌, ◌%◌, ◌^◌, ◌<◌, ◌≤◌, Bool, true, false, cond, not, ◌&&◌, List, [], ◌∷◌, ◌++◌, length, take, drop, get_or, refl, sym, ap, ◌∙◌, inl, inr, Option, Some, None, is_some, nat_lt, bit_and, count_ones, MatchOption, Bor, Less, length-append, length-drop, take-take, arith}
use Rattle.std.specs.Int.{bit_at}
use Rattle.std.specs.FinMap.{entries, get, entries_sorted, empty}
use Rattle.std.specs.FinMap.Entries.{where_key, is_sorted-where_key, same_entries}
use Rattle.std.proofs.lemmas.Bool.Decides.{nat_tests}
use Rattle.std.proofs.lemmas.Nat.{shr_split, pow_pos, mod_below}
use Rattle.std.proofs.lemmas.Nat.Bits.{bit_at-zero, bit_at_cat_low, bit_at_cat_high}
use Rattle.std.proofs.lemmas.Bool.{false_from_ne_true, true_from_ne_false, cases_lt}
use Rattle.ipnet_addr.proofs.Basics.{T-and}
use Rattle.ipnet_blocks.specs.BitStrings.{bits_cmp, begins}
use Rattle.trie_core.specs.InnerPlaces.{place_of, place_string, IsBeginMask, IsFirstPlace}
use Rattle.trie_core.specs.Nodes.{BitMap, Seen}
use Rattle.trie_core.specs.InnerNodes.{under}
use Rattle.trie_core.specs.InnerSearch.{IsChild, HasNoChild}
use Rattle.trie_core.specs.InnerCovers.{is_left, NoneFrom, IsFirstFrom, cover_rest, cover_weight}
use Rattle.trie_core.proofs.Strings.{bits_total, bits_same, same, same-Decides, not_same, front}
use Rattle.ipnet_blocks.proofs.BitStrings.{begins_take, take_begins, begins-under}
use Rattle.trie_core.proofs.Maps.{get_none}
use Rattle.trie_core.proofs.Order.{below_found}
use Rattle.trie_core.proofs.Numbers.{place_strings, place_string-place_of, place_bound, place_less}
use Rattle.trie_core.proofs.Taken.{taken}
use Rattle.trie_core.proofs.Seen.{IsSeen}
use Rattle.trie_core.proofs.Searches.{IsMet, met_beginning, met_place, unset_none, found_here}
use Rattle.trie_core.proofs.Frames.{under-under, under_none, found_where}
use Rattle.trie_core.proofs.Walks.{AreBelow, where_below, entries_none, kept_true}
use Rattle.std.proofs.Math.Bool.{and-true}

-- ---- the bits of a word from one on

bits_cut : (w p i : ℕ) → (i < p → bit_at (w - w % 2 ^ p) i ≡ 0) × (p ≤ i → bit_at (w - w % 2 ^ p) i ≡ bit_at w i)
bits_cut w p i =
    let cut : w - w % 2 ^ p ≡ w / 2 ^ p * 2 ^ p + 0 = omega (arith, shr_split w p) in (
      λ h. ap (λ x. bit_at x i) cut ∙ bit_at_cat_low (w / 2 ^ p) p 0 i h ∙ bit_at-zero i,
      λ h. ap (λ x. bit_at x i) cut ∙ bit_at_cat_high (w / 2 ^ p) p 0 i (pow_pos p) h ∙ sym (ap (λ x. bit_at x i) (sym (shr_split w p)) ∙ bit_at_cat_high (w / 2 ^ p) p (w % 2 ^ p) i (mod_below w (2 ^ p) (pow_pos p)) h),
    )

not_before : (w p n : ℕ) → bit_at (w - w % 2 ^ p) n ≡ 1 → p ≤ n
not_before w p n e = elim (cases_lt n p) [
  | inl l ↦ let z = (bits_cut w p n).0 l in absurd (omega (arith, z, e))
  | inr l ↦ l
]

module _ {X : Type 0} where
  unset_by : {vb : ℕ} {vs : List X} {cb : ℕ} {cs : List (Seen X)} {m : Seen X} (q s : List Bool) (mask : ℕ) → IsSeen vb vs cb cs m → IsBeginMask q mask → length s < 5 → begins s q ≡ true → bit_at (bit_and vb mask) (place_of s) ≡ 0 → get m.entries s ≡ None
  unset_by {vb} {m = m} q s mask n f h b z =
      let t = begins_take s q b in
      let e : place_of (take (length s) q) ≡ place_of s = ap place_of t.1 in
      ap (get m.entries) (sym t.1) ∙ unset_none q (length s) n h (sym (met_beginning vb mask q f (length s) h t.0) ∙ ap (bit_at (bit_and vb mask)) e ∙ z)

  pub none_from : {vb : ℕ} {vs : List X} {cb : ℕ} {cs : List (Seen X)} {m : Seen X} (q : List Bool) (mask place low : ℕ) → IsSeen vb vs cb cs m → IsBeginMask q mask → low ≡ bit_and vb mask % 2 ^ place → bit_and vb mask - low ≡ 0 → NoneFrom m.entries q place
  none_from {vb} q mask place low n f e z s h b l =
      let w = bit_and vb mask in
      unset_by q s mask n f h b (sym ((bits_cut w place (place_of s)).1 l) ∙ ap (λ x. bit_at x (place_of s)) (ap (λ x. w - x) (sym e) ∙ z) ∙ bit_at-zero (place_of s))

  pub met_from : {vb : ℕ} {vs : List X} {cb : ℕ} {cs : List (Seen X)} {m : Seen X} (q : List Bool) (mask place low next : ℕ) → IsSeen vb vs cb cs m → IsBeginMask q mask → low ≡ bit_and vb mask % 2 ^ place → IsFirstPlace (bit_and vb mask - low) next → IsMet vb next q × (place ≤ next)
  met_from {vb} q mask place low next n f e t =
      let w = bit_and vb mask in
      let b : bit_at (w - w % 2 ^ place) next ≡ 1 = ap (λ x. bit_at (w - x) next) (sym e) ∙ t.taken in
      let l = not_before w place next b in
      (met_place vb mask q n.slots.values_below f next (sym ((bits_cut w place next).1 l) ∙ b), l)

  pub first_from : {vb : ℕ} {vs : List X} {cb : ℕ} {cs : List (Seen X)} {m : Seen X} (q : List Bool) (mask place low next at : ℕ) (v : X) → IsSeen vb vs cb cs m → IsBeginMask q mask → low ≡ bit_and vb mask % 2 ^ place → IsFirstPlace (bit_and vb mask - low) next → at ≡ count_ones (vb % 2 ^ next) → v ≡ get_or vs at v
      → IsFirstFrom m.entries q place next v
  first_from {vb} {m = m} q mask place low next at v n f e t a r =
      let w = bit_and vb mask in
      let k = met_from q mask place low next n f e t in
      let s = place_string next in
      record {
        from = k.1;
        below = k.0.below;
        begun = begun_by s q k.0.within k.0.begins;
        found = ap (get m.entries) (sym k.0.begins) ∙ found_here q next at v n k.0 a r;
        first = λ x h b l j. unset_by q x mask n f h b (sym ((bits_cut w place (place_of x)).1 l) ∙ ap (λ y. bit_at (w - y) (place_of x)) (sym e) ∙ t.under (place_of x) j);
      }
    where
      begun_by : (s q : List Bool) → length s ≤ length q → take (length s) q ≡ s → begins s q ≡ true
      begun_by s q h e = ap (λ x. begins x q) (sym e) ∙ take_begins (length s) q

  pub index_from : {vb : ℕ} {vs : List X} {cb : ℕ} {cs : List (Seen X)} {m : Seen X} (q : List Bool) (at next : ℕ) → IsSeen vb vs cb cs m → IsMet vb next q → at ≡ count_ones (vb % 2 ^ next) → at < length vs
  index_from {vb} {vs} q at next n k a = (taken next at vb vs (omega (arith, k.below)) (k.stored, a) n.slots.values_counted).within

-- ---- what is left from a place on

pub left_true : (q : List Bool) (n : ℕ) (k : List Bool) → is_left q n k ≡ true → (begins k q ≡ true) × (length k < 5 → n ≤ place_of k)
left_true q n k e = grind (arith, nat_tests)

left_false : (q : List Bool) (n : ℕ) (k : List Bool) → is_left q n k ≡ false → begins k q ≡ true → (length k < 5) × (place_of k < n)
left_false q n k e b = grind (arith, nat_tests)

-- of two beginnings of a string the shorter one comes first
begins_less : (s x q : List Bool) → begins s q ≡ true → begins x q ≡ true → length s < length x → bits_cmp s x ≡ Less
begins_less [] x q a b h = grind arith
begins_less (z ∷ s) x q a b h = grind (arith, begins_less s)

place_below : (s : List Bool) → length s < 5 → place_of s < 31
place_below s h = omega (arith, place_bound 5 s h)

below_or : (a b : ℕ) → a < b + 1 → (a ≡ b → ⊥) → a < b
below_or a b h f = omega arith

left_none : (q : List Bool) (k : List Bool) → length q < 5 → is_left q 31 k ≡ false
left_none q k h = false_from_ne_true (is_left q 31 k) (λ e.
    let t = left_true q 31 k e in
    let l : length k < 5 = omega (arith, (begins_take k q t.0).0, h) in
    omega (arith, t.1 l, place_below k l))

left_all : (q k : List Bool) → is_left q 0 k ≡ begins k q
left_all q k = let z : nat_lt (place_of k) 0 ≡ false = grind (arith, nat_tests) in grind (arith, z)

where_none : {Y : Type 0} (f : List Bool → Bool) (es : List (List Bool × Y)) → ((k : List Bool) → f k ≡ false) → where_key bits_cmp f es ≡ []
where_none f [] h = refl
where_none f (e ∷ es) h = ap (λ t. cond t (e ∷ where_key bits_cmp f es) (where_key bits_cmp f es)) (h e.0) ∙ where_none f es h

where_same : {Y : Type 0} (f g : List Bool → Bool) (es : List (List Bool × Y)) → ((k : List Bool) → f k ≡ g k) → where_key bits_cmp f es ≡ where_key bits_cmp g es
where_same f g [] h = refl
where_same f g (e ∷ es) h = λ i. cond (h e.0 i) (e ∷ where_same f g es h i) (where_same f g es h i)

module _ {X : Type 0} where
  -- a key that only one of two tests keeps is not there
  two_same : (a b : Bool) (o : Option X) → (a ≡ true → b ≡ false → o ≡ None) → (a ≡ false → b ≡ true → ⊥) → cond a o None ≡ cond b o None
  two_same a b o f g = grind arith

  pub where_next : {m : BitMap X} {q : List Bool} {n p : ℕ} {v : X} → IsFirstFrom m q n p v → where_key bits_cmp (is_left q n) (entries m) ≡ (place_string p, v) ∷ where_key bits_cmp (is_left q (p + 1)) (entries m)
  where_next {m} {q} {n} {p} {v} w =
      same_entries bits_cmp bits_total bits_same _ _ (is_sorted-where_key bits_cmp (is_left q n) (entries m) (entries_sorted m))
      (T-and _ _
      (below_found (place_string p) (where_key bits_cmp (is_left q (p + 1)) (entries m)) (λ x f. less x (kept_true (is_left q (p + 1) x) (get m x) (ap is_some (sym (found_where m (is_left q (p + 1)) x)) ∙ f))))
      (is_sorted-where_key bits_cmp (is_left q (p + 1)) (entries m) (entries_sorted m)))
      (λ x. found_where m (is_left q n) x ∙ by x (same x (place_string p)) refl ∙ ap (cond (same x (place_string p)) (Some v)) (sym (found_where m (is_left q (p + 1)) x)))
    where
      less : (x : List Bool) → is_left q (p + 1) x ≡ true → bits_cmp (place_string p) x ≡ Less
      less x e =
          let s = place_strings p w.below in
          let t = left_true q (p + 1) x e in
          elim (cases_lt (length x) 5) [
            | inl l ↦ place_less 5 (place_string p) x s.short l (omega (arith, s.place, t.1 l))
            | inr l ↦ begins_less (place_string p) x q w.begun t.0 (omega (arith, l, s.short))
          ]

      own : is_left q n (place_string p) ≡ true
      own = true_from_ne_false (is_left q n (place_string p)) (λ e. let t = left_false q n (place_string p) e w.begun in omega (arith, t.1, (place_strings p w.below).place, w.from))

      apart : (x : List Bool) → same x (place_string p) ≡ false → length x < 5 → place_of x ≡ p → ⊥
      apart x e l d = not_same e (sym (place_string-place_of x l) ∙ ap place_string d)

      by : (x : List Bool) (t : Bool) → same x (place_string p) ≡ t → cond (is_left q n x) (get m x) None ≡ cond t (Some v) (cond (is_left q (p + 1) x) (get m x) None)
      by x true e =
          let d = (same-Decides x (place_string p)).0 e in
          ap (λ y. cond (is_left q n y) (get m y) None) d ∙ ap (λ t. cond t (get m (place_string p)) None) own ∙ w.found
      by x false e = two_same (is_left q n x) (is_left q (p + 1) x) (get m x)
          (λ a b.
          let t = left_true q n x a in
          let u = left_false q (p + 1) x b t.0 in
          w.first x u.0 t.0 (t.1 u.0) (below_or (place_of x) p u.1 (apart x e u.0)))
          (λ a b.
          let t = left_true q (p + 1) x b in
          let u = left_false q n x a t.0 in
          omega (arith, u.1, t.1 u.0, w.from))

  pub where_rest : (m : BitMap X) {q : List Bool} {n : ℕ} → NoneFrom m q n → where_key bits_cmp (is_left q n) (entries m) ≡ where_key bits_cmp (is_left q 31) (entries m)
  where_rest m {q} {n} w =
      same_entries bits_cmp bits_total bits_same _ _ (is_sorted-where_key bits_cmp (is_left q n) (entries m) (entries_sorted m)) (is_sorted-where_key bits_cmp (is_left q 31) (entries m) (entries_sorted m))
      (λ x. found_where m (is_left q n) x
      ∙ two_same (is_left q n x) (is_left q 31 x) (get m x)
      (λ a b.
      let t = left_true q n x a in
      let u = left_false q 31 x b t.0 in
      w x u.0 t.0 (t.1 u.0))
      (λ a b.
      let t = left_true q 31 x b in
      let u = left_false q n x a t.0 in
      omega (arith, t.1 u.0, place_below x u.0))
      ∙ sym (found_where m (is_left q 31) x))

  pub cover_end : (m : BitMap X) {q : List Bool} {n : ℕ} → NoneFrom m q n → length q < 5 → where_key bits_cmp (is_left q n) (entries m) ≡ []
  cover_end m {q} {n} w h = where_rest m w ∙ where_none (is_left q 31) (entries m) (λ k. left_none q k h)

  pub cover_start : (m : BitMap X) (q : List Bool) {trail : List Bool} → trail ≡ [] → under trail (where_key bits_cmp (is_left q 0) (entries m)) ≡ where_key bits_cmp (λ k. begins k q) (entries m)
  cover_start m q e = ap (λ t. under t (where_key bits_cmp (is_left q 0) (entries m))) e ∙ under_none _ ∙ where_same (is_left q 0) (λ k. begins k q) (entries m) (left_all q)

  pub left_below : (p : List Bool) {m c : BitMap X} → 5 ≤ length p → ((r : List Bool) → get m (take 5 p ++ r) ≡ get c r) → AreBelow p m c (is_left p 31) (is_left (drop 5 p) 0)
  left_below p h s = record {
    long = h;
    gets = s;
    told = λ r.
        let l : nat_lt (length (take 5 p ++ r)) 5 ≡ false = let five = (front p h).0 in let a = length-append (take 5 p) r in grind (arith, nat_tests) in
        (λ i. begins (take 5 p ++ r) (sym (front p h).1 i) && not (l i && nat_lt (place_of (take 5 p ++ r)) 31))
        ∙ ap (λ b. b && true) (begins-under (take 5 p) r (drop 5 p)) ∙ and-true (begins r (drop 5 p)) ∙ sym (left_all (drop 5 p) r);
    other = λ x n. false_from_ne_true _ (λ e. let t = left_true p 31 x e in elim (cases_lt (length x) 5) [
      | inl l ↦ omega (arith, t.1 l, place_below x l)
      | inr l ↦ let f = begins_take x p t.0 in n (drop 5 x) (sym (front x l).1 ∙ ap (λ y. y ++ drop 5 x) (ap (take 5) (sym f.1) ∙ take-take 5 (length x) p l))
    ]);
  }

  -- below the five bits
  pub cover_below : (m : Seen X) (trail : List Bool) {p : List Bool} {n : ℕ} (o : Option (Bor (Seen X))) {r way : List Bool} → NoneFrom m.entries p n → 5 ≤ length p → MatchOption o (HasNoChild p m) (λ c. IsChild p m c.now) → way ≡ trail ++ take 5 p → r ≡ drop 5 p
      → (under trail (where_key bits_cmp (is_left p n) (entries m.entries)) ≡ cover_rest o r 0 way) × (cover_weight o r < length p + 1)
  cover_below m trail {p} {n} None {r} {way} w h s e d = (
    ap (under trail) (where_rest m.entries w ∙ where_below (left_below p {c = empty} h (λ r. s.gets r ∙ sym (get_none r))) ∙ ap (λ es. under (take 5 p) (where_key bits_cmp (is_left (drop 5 p) 0) es)) entries_none),
    omega arith,
  )
  cover_below m trail {p} {n} (Some c) {r} {way} w h s e d = (
    ap (under trail) (where_rest m.entries w ∙ where_below (left_below p h s.gets)) ∙ under-under trail (take 5 p) (where_key bits_cmp (is_left (drop 5 p) 0) (entries c.now.entries))
        ∙ (λ i. under (sym e i) (where_key bits_cmp (is_left (sym d i) 0) (entries c.now.entries))),
    omega (arith, ap length d, length-drop 5 p, h),
  )
