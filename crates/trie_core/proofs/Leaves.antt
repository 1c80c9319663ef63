-- Where nothing stands strictly inside a string.
use Rattle.std.proofs.Common.{◌≡◌, ℕ, zero, suc, ◌+◌, ◌-◌, ◌/◌, ◌%◌, ◌^◌, ◌<◌, ◌≤◌, Bool, true, not, ◌&&◌, List, [], ◌∷◌, ◌++◌, length, take, drop, refl, sym, ap, ◌∙◌, inl, inr, Option, Some, None, bit_and, count_ones, eqb, nat_lt, ◌↔◌, nat_cmp, arith}
use Rattle.std.specs.Int.{bit_at}
use Rattle.std.specs.FinMap.{find, get, get-empty, len, len-empty, empty, same_map}
use Rattle.std.proofs.lemmas.Bool.Decides.{nat_tests}
use Rattle.std.proofs.lemmas.List.{append_assoc, drop_all, take_all, take-append-drop, append-nil}
use Rattle.std.proofs.lemmas.Nat.{and_le_l}
use Rattle.std.proofs.lemmas.Nat.Bits.{bit_at_and, bit_at-lt, bit_at-zero, bit_at_mask_above, bit_at_mask_below, bit_at_mask_inside}
use Rattle.ipnet_blocks.specs.BitStrings.{bits_cmp, begins}
use Rattle.ipnet_blocks.proofs.BitStrings.{begins_on, begun_rest}
use Rattle.trie_core.specs.InnerPlaces.{place_from, place_of, child_of, place_string, child_string, at_places}
use Rattle.trie_core.specs.InnerSearch.{IsChild, HasNoChild, IsLeaf}
use Rattle.trie_core.specs.Inside.{NothingInside}
use Rattle.trie_core.specs.Nodes.{BitMap, Seen}
use Rattle.trie_core.specs.InnerCount.{marked}
use Rattle.trie_core.proofs.Strings.{bits_total, bits_same}
use Rattle.trie_core.proofs.Numbers.{place_strings, child_of-string, length-child_string}
use Rattle.trie_core.proofs.PlaceTables.{inside_short, inside_long}
use Rattle.trie_core.proofs.Maps.{get_none, child_get}
use Rattle.trie_core.proofs.Marks.{marked_get, marked-root, root_if, set-short}
use Rattle.trie_core.proofs.Taken.{taken, missing}
use Rattle.trie_core.proofs.Seen.{IsSeen, value_at, below_at, spare_at, is_child}
use Rattle.trie_core.proofs.Searches.{below_31, last_place, both_set}
use Rattle.std.proofs.lemmas.Bool.{cases_lt}

-- ---- what goes on from a string

-- it comes after the string
place_after : (n : ℕ) (q : List Bool) (b : Bool) (k : List Bool) → length (q ++ b ∷ k) < n → place_from n q < place_from n (q ++ b ∷ k)
place_after zero q b k h = absurd (omega (arith, h))
place_after (suc n) [] b k h = omega arith
place_after (suc n) (x ∷ q) b k h = omega (arith, place_after n q b k (omega (arith, h)))

-- what begins with q, and isn't q, goes on from it
pub goes_on : (q x : List Bool) → begins q x ≡ true → (q ≡ x → ⊥) → (b : Bool) × (k : List Bool) × (q ++ b ∷ k ≡ x)
goes_on q x e f = by (drop (length q) x) (begun_rest q x e)
  where
    by : (r : List Bool) → q ++ r ≡ x → (b : Bool) × (k : List Bool) × (q ++ b ∷ k ≡ x)
    by [] z = absurd (f (sym (append-nil q) ∙ z))
    by (b ∷ k) z = (b, k, z)

-- ---- words

-- a number in a range, and the test of it
ranged : (from end i : ℕ) → true ≡ (not (nat_lt i from) && nat_lt i end) → (from ≤ i) × (i < end)
ranged from end i e = grind (arith, nat_tests)

in_range : (from end i : ℕ) → from ≤ i → i < end → (not (nat_lt i from) && nat_lt i end) ≡ true
in_range from end i h l = grind (arith, nat_tests)

-- what the other word has, this one lacks
apart : (a b i : ℕ) → bit_and a b ≡ 0 → bit_at b i ≡ 1 → bit_at a i ≡ 0
apart a b i z e = omega (arith, bit_at_and a b i, ap (λ n. bit_at n i) z, bit_at-zero i, e, bit_at-lt a i)

-- a word without bits is 0
no_bit : (a : ℕ) → a < 2 ^ 32 → ((i : ℕ) → i < 32 → bit_at a i ≡ 1 → ⊥) → a ≡ 0
no_bit a h f = elim (cases_lt 0 a) [
  | inl e ↦ let t = last_place a e h in absurd (f _ t.within t.taken)
  | inr e ↦ omega arith
]

-- between two places
has_between : (from end i : ℕ) → eqb (bit_at (2 ^ end - 2 ^ from) i) 1 ≡ (not (nat_lt i from) && nat_lt i end)
has_between from end i = grind (arith, nat_tests, bit_at_mask_below from end i, bit_at_mask_inside from end i, bit_at_mask_above from end i)

-- a bit between two places
between : (from end i : ℕ) → bit_at (2 ^ end - 2 ^ from) i ≡ 1 → (from ≤ i) × (i < end)
between from end i e = ranged from end i (sym (ap (λ n. eqb n 1) e) ∙ has_between from end i)

-- something stands where a bit is set
some_at : {Y : Type 0} (i bits : ℕ) (ys : List Y) → i < 32 → bit_at bits i ≡ 1 → count_ones bits ≡ length ys → find nat_cmp i (at_places 32 0 bits ys) ≡ None → ⊥
some_at {Y} i bits [] h e c z = absurd (omega (arith, (taken {X = Y} i (count_ones (bits % 2 ^ i)) bits [] h (e, refl) c).within))
some_at {Y} i bits (y ∷ ys) h e c z = let r = sym z ∙ (taken {X = Y} i (count_ones (bits % 2 ^ i)) bits (y ∷ ys) h (e, refl) c).read y in cc

-- ---- on the way

step_in : {Y : Type 0} (m c : BitMap Y) (q r : List Bool) → ((b : Bool) (k : List Bool) → get m (take 5 q ++ b ∷ k) ≡ get c (b ∷ k)) → r ≡ drop 5 q → NothingInside c r ↔ NothingInside m q
step_in m c q r f e = (λ g b k. at b k ∙ g b k, λ g b k. sym (at b k) ∙ g b k)
  where
    more : (p : List Bool) (b : Bool) (k : List Bool) → get m (take 5 q ++ (p ++ b ∷ k)) ≡ get c (p ++ b ∷ k)
    more [] b k = f b k
    more (x ∷ p) b k = f x (p ++ b ∷ k)

    at : (b : Bool) (k : List Bool) → get m (q ++ b ∷ k) ≡ get c (r ++ b ∷ k)
    at b k = ap (λ p. get m (p ++ b ∷ k)) (sym (take-append-drop 5 q)) ∙ ap (get m) (append_assoc (take 5 q) (drop 5 q) (b ∷ k)) ∙ more (drop 5 q) b k ∙ ap (λ p. get c (p ++ b ∷ k)) (sym e)

module _ {X : Type 0} where
  -- ---- from the words of a node

  no_value_at : {vb vm : ℕ} {vs : List X} {cb : ℕ} {cs : List (Seen X)} {m : Seen X} (q : List Bool) (b : Bool) (k : List Bool) → IsSeen vb vs cb cs m → length q < 5 → vm ≡ 2 ^ (place_of q + 31 / 2 ^ length q) - 2 ^ (place_of q + 1) → bit_and vb vm ≡ 0 → length (q ++ b ∷ k) < 5 → get m.entries (q ++ b ∷ k) ≡ None
  no_value_at {vb} {vm} {vs} q b k s h e z l =
      let x = q ++ b ∷ k in
      let t = ranged (place_of q) (place_of q + 31 / 2 ^ length q) (place_of x) (sym (begins_on q (b ∷ k)) ∙ inside_short q x h l) in
      let u : bit_at vm (place_of x) ≡ 1 = ap (λ n. bit_at n (place_of x)) e ∙ bit_at_mask_inside (place_of q + 1) (place_of q + 31 / 2 ^ length q) (place_of x) (omega (arith, place_after 5 q b k l)) t.1 in
      sym (value_at x s l) ∙ sym (missing (place_of x) vb vs (apart vb vm (place_of x) z u))

  no_child_at : {vb cm : ℕ} {vs : List X} {cb : ℕ} {cs : List (Seen X)} {m : Seen X} (q : List Bool) (b : Bool) (k : List Bool) → IsSeen vb vs cb cs m → length q < 5 → cm ≡ 2 ^ (child_of q + 32 / 2 ^ length q) - 2 ^ child_of q → bit_and cb cm ≡ 0 → 5 ≤ length (q ++ b ∷ k) → None ≡ find nat_cmp (child_of (q ++ b ∷ k)) (at_places 32 0 cb cs)
  no_child_at {cm = cm} {cb = cb} {cs = cs} q b k s h e z l =
      let x = q ++ b ∷ k in
      let t = ranged (child_of q) (child_of q + 32 / 2 ^ length q) (child_of x) (sym (begins_on q (b ∷ k)) ∙ inside_long q x h l) in
      let u : bit_at cm (child_of x) ≡ 1 = ap (λ n. bit_at n (child_of x)) e ∙ bit_at_mask_inside (child_of q) (child_of q + 32 / 2 ^ length q) (child_of x) t.0 t.1 in
      missing (child_of x) cb cs (apart cb cm (child_of x) z u)

  pub none_inside_here : {vb vm cm : ℕ} {vs : List X} {cb : ℕ} {cs : List (Seen X)} {m : Seen X} (q : List Bool) → IsSeen vb vs cb cs m → length q < 5 → vm ≡ 2 ^ (place_of q + 31 / 2 ^ length q) - 2 ^ (place_of q + 1) → cm ≡ 2 ^ (child_of q + 32 / 2 ^ length q) - 2 ^ child_of q → bit_and vb vm ≡ 0 → bit_and cb cm ≡ 0
      → NothingInside m.entries q × NothingInside m.spares q
  none_inside_here {m = m} q s h e f y z = (
    λ b k. elim (cases_lt (length (q ++ b ∷ k)) 5) [
      | inl l ↦ no_value_at q b k s h e y l
      | inr l ↦ sym (below_at (q ++ b ∷ k) s l) ∙ ap (λ o. child_get o (drop 5 (q ++ b ∷ k))) (sym (no_child_at q b k s h f z l)) ∙ get_none (drop 5 (q ++ b ∷ k))
    ],
    λ b k. elim (cases_lt (length (q ++ b ∷ k)) 5) [
      | inl l ↦ ap (λ c. get c (q ++ b ∷ k)) (sym s.spare) ∙ set-short s.node (q ++ b ∷ k) l
      | inr l ↦ sym (spare_at (q ++ b ∷ k) s l) ∙ ap (λ o. marked_get o (drop 5 (q ++ b ∷ k))) (sym (no_child_at q b k s h f z l))
    ],
  )

  -- ---- and back

  pub no_value_word : {vb vm : ℕ} {vs : List X} {cb : ℕ} {cs : List (Seen X)} {m : Seen X} (q : List Bool) → IsSeen vb vs cb cs m → length q < 5 → vm ≡ 2 ^ (place_of q + 31 / 2 ^ length q) - 2 ^ (place_of q + 1) → NothingInside m.entries q → bit_and vb vm ≡ 0
  no_value_word {vb} {vm} {vs} {m = m} q s h e f = no_bit (bit_and vb vm) (omega (arith, and_le_l vb vm, s.slots.values_below)) (λ i l b.
      let t = both_set vb vm i b in
      let r = between (place_of q + 1) (place_of q + 31 / 2 ^ length q) i (ap (λ n. bit_at n i) (sym e) ∙ t.1) in
      let p = place_strings i (below_31 vb i s.slots.values_below t.0) in
      let x = place_string i in
      let w : begins q x ≡ true = inside_short q x h p.short ∙ in_range (place_of q) (place_of q + 31 / 2 ^ length q) (place_of x) (omega (arith, p.place, r.0)) (omega (arith, p.place, r.1)) in
      let g = goes_on q x w (λ z. omega (arith, ap place_of z, p.place, r.0)) in
      some_at i vb vs l t.0 s.slots.values_counted (ap (λ n. find nat_cmp n (at_places 32 0 vb vs)) (sym p.place) ∙ value_at x s p.short ∙ ap (get m.entries) (sym g.2) ∙ f g.0 g.1))

  -- a node with no key is spare
  idle_spare : (c : Seen X) → ((r : List Bool) → get c.entries r ≡ None) → get (marked c) [] ≡ Some tt
  idle_spare c f =
      let e : c.entries ≡ empty = same_map bits_total bits_same _ _ (λ r. f r ∙ sym (get-empty bits_cmp r)) in
      marked-root c ∙ ap root_if (ap len e ∙ len-empty bits_cmp X)

  -- a child inside q has a key, or is spare
  pub no_child_inside : {vb cb : ℕ} {vs : List X} {cs : List (Seen X)} {m : Seen X} (q x : List Bool) (b : Bool) (k : List Bool) → IsSeen vb vs cb cs m
      → NothingInside m.entries q → NothingInside m.spares q → q ++ b ∷ k ≡ x → length x ≡ 5 → (o : Option (Seen X)) → find nat_cmp (child_of x) (at_places 32 0 cb cs) ≡ o → o ≡ None
  no_child_inside q x b k s f g z five None d = refl
  no_child_inside {m = m} q x b k s f g z five (Some c) d =
      let long : 5 ≤ length x = omega (arith, five) in
      let whole : take 5 x ≡ x = take_all 5 x (omega (arith, five)) in
      let c_is = is_child x c s long d in
      let at = λ (r : List Bool). ap (λ y. y ++ r) (whole ∙ sym z) ∙ append_assoc q (b ∷ k) r in
      let none : (r : List Bool) → get c.entries r ≡ None = λ r. sym (c_is.gets r) ∙ ap (get m.entries) (at r) ∙ f b (k ++ r) in
      let root = ap (λ o. marked_get o (drop 5 x)) d ∙ ap (λ y. marked_get (Some c) y) (drop_all 5 x (omega (arith, five))) in
      let some : get m.spares x ≡ Some tt = sym (spare_at x s long) ∙ root ∙ idle_spare c none in
      let not = sym some ∙ ap (get m.spares) (sym z) ∙ g b k in
      cc

  pub no_child_word : {vb cm : ℕ} {vs : List X} {cb : ℕ} {cs : List (Seen X)} {m : Seen X} (q : List Bool) → IsSeen vb vs cb cs m → length q < 5 → cm ≡ 2 ^ (child_of q + 32 / 2 ^ length q) - 2 ^ child_of q → NothingInside m.entries q → NothingInside m.spares q → bit_and cb cm ≡ 0
  no_child_word {cm = cm} {cb = cb} {cs = cs} {m = m} q s h e f g = no_bit (bit_and cb cm) (omega (arith, and_le_l cb cm, s.slots.children_below)) (λ i l b.
      let t = both_set cb cm i b in
      let r = between (child_of q) (child_of q + 32 / 2 ^ length q) i (ap (λ n. bit_at n i) (sym e) ∙ t.1) in
      let x = child_string i in
      let n : child_of x ≡ i = child_of-string i l in
      let five : length x ≡ 5 = length-child_string i in
      let long : 5 ≤ length x = omega (arith, five) in
      let w : begins q x ≡ true = inside_long q x h long ∙ in_range (child_of q) (child_of q + 32 / 2 ^ length q) (child_of x) (omega (arith, n, r.0)) (omega (arith, n, r.1)) in
      let o = goes_on q x w (λ z. omega (arith, ap length z, five, h)) in
      held x o.0 o.1 o.2 n l five t.0)
    where
      held : (x : List Bool) (b : Bool) (k : List Bool) → q ++ b ∷ k ≡ x → {i : ℕ} → child_of x ≡ i → i < 32 → length x ≡ 5 → bit_at cb i ≡ 1 → ⊥
      held x b k z {i} n l five t =
          let none = no_child_inside q x b k s f g z five (find nat_cmp (child_of x) (at_places 32 0 cb cs)) refl in
          some_at i cb cs l t s.slots.children_counted (ap (λ j. find nat_cmp j (at_places 32 0 cb cs)) (sym n) ∙ none)

  pub leaf_below : {m c : Seen X} {q r : List Bool} → IsChild q m c → r ≡ drop 5 q → IsLeaf c r ↔ IsLeaf m q
  leaf_below {m} {c} {q} {r} h e =
      let a = step_in m.entries c.entries q r (λ b k. h.gets (b ∷ k)) e in
      let b = step_in m.spares c.spares q r h.spares e in
      (λ p. (a.0 p.0, b.0 p.1), λ p. (a.1 p.0, b.1 p.1))

  pub leaf_ends : {m : Seen X} {q : List Bool} → HasNoChild q m → IsLeaf m q
  leaf_ends {m} {q} h = (λ b k. ap (get m.entries) (at b k) ∙ h.gets (drop 5 q ++ b ∷ k), λ b k. ap (get m.spares) (at b k) ∙ h.spares (drop 5 q ++ b ∷ k))
    where
      at : (b : Bool) (k : List Bool) → q ++ b ∷ k ≡ take 5 q ++ (drop 5 q ++ b ∷ k)
      at b k = ap (λ p. p ++ b ∷ k) (sym (take-append-drop 5 q)) ∙ append_assoc (take 5 q) (drop 5 q) (b ∷ k)
