-- The things before a place, and those from it on.
use Rattle.std.proofs.Common.{◌≡◌, ℕ, zero, suc, ◌+◌, ◌-◌, ◌*◌, ◌/◌, ◌%◌, ◌^◌, ◌<◌, ◌≤◌, Bool, true, false, cond, not, List, [], ◌∷◌, length, take, drop, refl, sym, ap, ◌∙◌, inl, inr, Some, None, nat_lt, count_ones, nat_cmp, length-take, length-drop, arith}
use Rattle.std.specs.FinMap.Entries.{where_key}
use Rattle.std.proofs.lemmas.Bool.Decides.{nat_tests}
use Rattle.std.proofs.lemmas.Nat.{ones_cat, shr_split, pow_pos, mod-pow-add}
use Rattle.std.proofs.Math.Seq.{take-nil, drop-nil}
use Rattle.std.proofs.lemmas.List.{nil_from_length}
use Rattle.ipnet_addr.proofs.Basics.{no_ones}
use Rattle.trie_core.specs.InnerPlaces.{at_places, placed, first_place_of, IsFirstPlace}
use Rattle.trie_core.proofs.Numbers.{ones_bit}
use Rattle.trie_core.proofs.Places.{ones_below_suc, ones_split}
use Rattle.trie_core.proofs.Taken.{ones_below_le}
use Rattle.trie_core.proofs.Seen.{no_bits}
use Rattle.trie_core.proofs.Edits.{low_bit, at_none, at_step, at_first, at_lowest, ones_clear, bit_within}

-- the low bits and the others are all
split_ones : (i bits : ℕ) → count_ones (bits - bits % 2 ^ i) + count_ones (bits % 2 ^ i) ≡ count_ones bits
split_ones i bits =
    let high : bits / 2 ^ i * 2 ^ i + 0 ≡ bits - bits % 2 ^ i = omega (arith, shr_split bits i) in
    omega (arith, ap count_ones (sym high) ∙ ones_cat i (bits / 2 ^ i) 0 (pow_pos i), ones_split i bits, ones_bit 0 (omega arith))

-- a word without its lowest bit
low_half : (i bits : ℕ) → bits % 2 ^ suc i / 2 ≡ bits / 2 % 2 ^ i
low_half i bits = let e : suc i ≡ i + 1 = omega arith in rw e (let m = mod-pow-add bits i 1 in omega (arith, m))

low_odd : (i bits : ℕ) → bits % 2 ^ suc i % 2 ≡ bits % 2
low_odd i bits = let e : suc i ≡ i + 1 = omega arith in rw e (let m = mod-pow-add bits i 1 in omega (arith, m))

high_half : (i bits : ℕ) → (bits - bits % 2 ^ suc i) / 2 ≡ bits / 2 - bits / 2 % 2 ^ i
high_half i bits = omega (arith, low_half i bits, low_odd i bits)

high_even : (i bits : ℕ) → (bits - bits % 2 ^ suc i) % 2 ≡ 0
high_even i bits = omega (arith, low_odd i bits)

none_either : {Y : Type 0} (b : Bool) → ◌≡◌ {A = List Y} [] (cond b [] [])
none_either b = grind arith

module _ {X : Type 0} where
  keep_more : (n : ℕ) (x : X) (es : List (ℕ × X)) (p : ℕ → Bool) (b : Bool) → where_key nat_cmp p es ≡ cond b es [] → p n ≡ b → where_key nat_cmp p ((n, x) ∷ es) ≡ cond b ((n, x) ∷ es) []
  keep_more n x es p true e f = ap (λ t. cond t ((n, x) ∷ where_key nat_cmp p es) (where_key nat_cmp p es)) f ∙ ap (λ ys. (n, x) ∷ ys) e
  keep_more n x es p false e f = ap (λ t. cond t ((n, x) ∷ where_key nat_cmp p es) (where_key nat_cmp p es)) f ∙ e

  -- a test that is the same for all places from n on keeps all or none
  keep_all : (w n bits : ℕ) (xs : List X) (p : ℕ → Bool) (b : Bool) → ((m : ℕ) → n ≤ m → p m ≡ b) → where_key nat_cmp p (at_places w n bits xs) ≡ cond b (at_places w n bits xs) []
  keep_all zero n bits xs p b h = none_either b
  keep_all (suc w) n bits [] p b h = none_either b
  keep_all (suc w) n bits (x ∷ xs) p b h = elim (low_bit bits) [
    | inl o ↦ rw (at_step w n bits (x ∷ xs) o) (keep_all w (suc n) (bits / 2) (x ∷ xs) p b (λ m l. h m (omega (arith, l))))
    | inr o ↦ rw (at_first w n bits x xs o) (keep_more n x _ p b (keep_all w (suc n) (bits / 2) xs p b (λ m l. h m (omega (arith, l)))) (h n (omega arith)))
  ]

  -- those before place n + i, of which there are k
  pub before_is : (w n i k bits : ℕ) (xs : List X) → k ≡ count_ones (bits % 2 ^ i) → at_places w n (bits % 2 ^ i) (take k xs) ≡ where_key nat_cmp (λ m. nat_lt m (n + i)) (at_places w n bits xs)
  before_is zero n i k bits xs e = refl
  before_is (suc w) n i k bits [] e = ap (at_places (suc w) n (bits % 2 ^ i)) (take-nil k)
  before_is (suc w) n zero k bits (x ∷ xs) e =
      ap (λ j. at_places (suc w) n (bits % 2 ^ 0) (take j (x ∷ xs))) (e ∙ no_ones bits) ∙ at_none (suc w) n (bits % 2 ^ 0)
      ∙ sym (keep_all (suc w) n bits (x ∷ xs) (λ m. nat_lt m (n + 0)) false (λ m l. grind (arith, nat_tests)))
  before_is (suc w) n (suc i) k bits (x ∷ xs) e =
      let f : n + suc i ≡ suc n + i = omega arith in
      let half = low_half i bits in
      let odd = low_odd i bits in
      rw f (elim (low_bit bits) [
        | inl o ↦
            let j : k ≡ count_ones (bits / 2 % 2 ^ i) = omega (arith, e, ones_below_suc i bits, o) in
            at_step w n (bits % 2 ^ suc i) (take k (x ∷ xs)) (odd ∙ o) ∙ ap (λ b. at_places w (suc n) b (take k (x ∷ xs))) half
            ∙ before_is w (suc n) i k (bits / 2) (x ∷ xs) j ∙ ap (where_key nat_cmp (λ m. nat_lt m (suc n + i))) (sym (at_step w n bits (x ∷ xs) o))
        | inr o ↦
            let c = count_ones (bits / 2 % 2 ^ i) in
            let j : k ≡ suc (count_ones (bits / 2 % 2 ^ i)) = omega (arith, e, ones_below_suc i bits, o) in
            let l : nat_lt n (suc n + i) ≡ true = grind (arith, nat_tests) in
            ap (λ k. at_places (suc w) n (bits % 2 ^ suc i) (take k (x ∷ xs))) j
            ∙ at_first w n (bits % 2 ^ suc i) x (take c xs) (odd ∙ o) ∙ ap (λ b. (n, x) ∷ at_places w (suc n) b (take c xs)) half
            ∙ ap (λ es. (n, x) ∷ es) (before_is w (suc n) i c (bits / 2) xs refl)
            ∙ sym (ap (where_key nat_cmp (λ m. nat_lt m (suc n + i))) (at_first w n bits x xs o) ∙ ap (λ b. cond b ((n, x) ∷ where_key nat_cmp (λ m. nat_lt m (suc n + i)) (at_places w (suc n) (bits / 2) xs)) (where_key nat_cmp (λ m. nat_lt m (suc n + i)) (at_places w (suc n) (bits / 2) xs))) l)
      ])

  -- those from place n + i on, after k others
  pub from_is : (w n i k bits : ℕ) (xs : List X) → k ≡ count_ones (bits % 2 ^ i) → at_places w n (bits - bits % 2 ^ i) (drop k xs) ≡ where_key nat_cmp (λ m. not (nat_lt m (n + i))) (at_places w n bits xs)
  from_is zero n i k bits xs e = refl
  from_is (suc w) n i k bits [] e = ap (at_places (suc w) n (bits - bits % 2 ^ i)) (drop-nil k)
  from_is (suc w) n zero k bits (x ∷ xs) e =
      let b : bits - bits % 2 ^ 0 ≡ bits = omega arith in
      (λ j. at_places (suc w) n (b j) (drop ((e ∙ no_ones bits) j) (x ∷ xs)))
      ∙ sym (keep_all (suc w) n bits (x ∷ xs) (λ m. not (nat_lt m (n + 0))) true (λ m l. grind (arith, nat_tests)))
  from_is (suc w) n (suc i) k bits (x ∷ xs) e =
      let f : n + suc i ≡ suc n + i = omega arith in
      let half = high_half i bits in
      let even = high_even i bits in
      rw f (elim (low_bit bits) [
        | inl o ↦
            let j : k ≡ count_ones (bits / 2 % 2 ^ i) = omega (arith, e, ones_below_suc i bits, o) in
            at_step w n (bits - bits % 2 ^ suc i) (drop k (x ∷ xs)) even ∙ ap (λ b. at_places w (suc n) b (drop k (x ∷ xs))) half
            ∙ from_is w (suc n) i k (bits / 2) (x ∷ xs) j ∙ ap (where_key nat_cmp (λ m. not (nat_lt m (suc n + i)))) (sym (at_step w n bits (x ∷ xs) o))
        | inr o ↦
            let c = count_ones (bits / 2 % 2 ^ i) in
            let j : k ≡ suc (count_ones (bits / 2 % 2 ^ i)) = omega (arith, e, ones_below_suc i bits, o) in
            let l : not (nat_lt n (suc n + i)) ≡ false = grind (arith, nat_tests) in
            ap (λ k. at_places (suc w) n (bits - bits % 2 ^ suc i) (drop k (x ∷ xs))) j
            ∙ at_step w n (bits - bits % 2 ^ suc i) (drop c xs) even ∙ ap (λ b. at_places w (suc n) b (drop c xs)) half
            ∙ from_is w (suc n) i c (bits / 2) xs refl
            ∙ sym (ap (where_key nat_cmp (λ m. not (nat_lt m (suc n + i)))) (at_first w n bits x xs o) ∙ ap (λ b. cond b ((n, x) ∷ where_key nat_cmp (λ m. not (nat_lt m (suc n + i))) (at_places w (suc n) (bits / 2) xs)) (where_key nat_cmp (λ m. not (nat_lt m (suc n + i))) (at_places w (suc n) (bits / 2) xs))) l)
      ])

  -- the list in two at place i, where low has the bits below it
  pub record IsSplit (i low bits : ℕ) (xs : List X) : Type 0 where
    pub within : count_ones low ≤ length xs
    pub before_ones : count_ones low ≡ length (take (count_ones low) xs)
    pub before : placed low (take (count_ones low) xs) ≡ where_key nat_cmp (λ m. nat_lt m i) (placed bits xs)
    pub from_ones : count_ones (bits - low) ≡ length (drop (count_ones low) xs)
    pub from : placed (bits - low) (drop (count_ones low) xs) ≡ where_key nat_cmp (λ m. not (nat_lt m i)) (placed bits xs)

  pub split : (i low bits : ℕ) (xs : List X) → low ≡ bits % 2 ^ i → count_ones bits ≡ length xs → IsSplit i low bits xs
  unfolding placed
  split i low bits xs e c =
      let z : 0 + i ≡ i = omega arith in
      let k = count_ones (bits % 2 ^ i) in
      let l : count_ones (bits % 2 ^ i) ≤ length xs = omega (arith, c, ones_below_le i bits) in
      rw e (record {
        within = l;
        before_ones = omega (arith, length-take k xs, l);
        before = before_is 32 0 i k bits xs refl ∙ ap (λ j. where_key nat_cmp (λ m. nat_lt m j) (placed bits xs)) z;
        from_ones = omega (arith, length-drop k xs, l, c, split_ones i bits);
        from = from_is 32 0 i k bits xs refl ∙ ap (λ j. where_key nat_cmp (λ m. not (nat_lt m j)) (placed bits xs)) z;
      })

  -- the first thing stands at the lowest bit that is set
  pub record IsLowest (p bits : ℕ) (x : X) (xs : List X) : Type 0 where
    pub fits : 2 ^ p ≤ bits
    pub ones : count_ones (bits - 2 ^ p) ≡ length xs
    pub first : placed bits (x ∷ xs) ≡ (p, x) ∷ placed (bits - 2 ^ p) xs

  pub lowest : (p bits : ℕ) (x : X) (xs : List X) → IsFirstPlace bits p → count_ones bits ≡ length (x ∷ xs) → IsLowest p bits x xs
  unfolding placed
  lowest p bits x xs f e =
      let z : 0 + p ≡ p = omega arith in
      record {
        fits = bit_within bits p f.taken;
        ones = omega (arith, ones_clear p bits f.taken, e);
        first = at_lowest 32 0 p bits x xs f.within f.taken f.under ∙ ap (λ j. (j, x) ∷ placed (bits - 2 ^ p) xs) z;
      }

  pub placed_none : (bits : ℕ) (xs : List X) → length xs ≡ 0 → placed bits xs ≡ []
  unfolding placed
  placed_none bits xs e = ap (at_places 32 0 bits) (nil_from_length xs e) ∙ at_none 32 0 bits

  -- a thing that is alone
  pub alone : (p bits : ℕ) (x : X) (xs : List X) → IsFirstPlace bits p → count_ones bits ≡ length (x ∷ xs) → length xs ≡ 0 → placed bits (x ∷ xs) ≡ (p, x) ∷ []
  alone p bits x xs f e z = (lowest p bits x xs f e).first ∙ ap (λ ys. (p, x) ∷ ys) (placed_none (bits - 2 ^ p) xs z)

  pub first_is : (p bits : ℕ) (xs : List X) → IsFirstPlace bits p → count_ones bits ≡ length xs → 0 < bits → first_place_of (placed bits xs) ≡ Some p
  first_is p bits [] f e h = absurd (omega (arith, h, (no_bits bits 0 e).1 refl))
  first_is p bits (x ∷ xs) f e h = ap first_place_of (lowest p bits x xs f e).first

  pub none_is : (bits : ℕ) (xs : List X) → bits ≡ 0 → count_ones bits ≡ length xs → first_place_of (placed bits xs) ≡ None
  unfolding placed
  none_is bits xs z e = ap (λ ys. first_place_of (placed bits ys)) (nil_from_length xs (sym e ∙ ap count_ones z ∙ ones_bit 0 (omega arith)))
