-- What stands at a place of a bitmap.
use Rattle.std.proofs.Common.{◌≡◌, ℕ, zero, suc, ◌+◌, ◌*◌, ◌/◌, ◌%◌, ◌^◌, ◌<◌, true, false, cond, List, [], ◌∷◌, length, get_or, refl, sym, ap, ◌∙◌, Some, None, eqb, count_ones, nat_cmp, arith}
use Rattle.std.specs.FinMap.{find}
use Rattle.std.proofs.lemmas.Nat.{mod-pow-add, shr-shr, ones_cat, shr_split, pow_pos, mod_below}
use Rattle.std.proofs.lemmas.Bool.Decides.{nat_tests}
use Rattle.std.proofs.lemmas.Grind.{get_or_head}
use Rattle.trie_core.specs.InnerPlaces.{at_places}
use Rattle.trie_core.proofs.Numbers.{ones_bit}

-- the lowest bit is counted, and the others
pub ones_low : (a b : ℕ) → b < 2 → count_ones (a * 2 + b) ≡ count_ones a + b
ones_low a b h = ones_cat 1 a b h ∙ ap (λ x. count_ones a + x) (ones_bit b h)

pub ones_half : (n : ℕ) → count_ones n ≡ count_ones (n / 2) + n % 2
ones_half n = ap count_ones (sym (shr_split n 1)) ∙ ones_low (n / 2) (n % 2) (omega arith)

pub ones_below_suc : (i n : ℕ) → count_ones (n % 2 ^ suc i) ≡ count_ones (n / 2 % 2 ^ i) + n % 2
ones_below_suc i n = let e : suc i ≡ i + 1 = omega arith in rw e (ap count_ones (mod-pow-add n i 1) ∙ ones_low (n / 2 % 2 ^ i) (n % 2) (omega arith))

-- those below a place and those from it on
pub ones_split : (i n : ℕ) → count_ones n ≡ count_ones (n / 2 ^ i) + count_ones (n % 2 ^ i)
ones_split i n = ap count_ones (sym (shr_split n i)) ∙ ones_cat i (n / 2 ^ i) (n % 2 ^ i) (mod_below n (2 ^ i) (pow_pos i))

-- a set bit is not among those below it
pub ones_below_lt : (i n : ℕ) → n / 2 ^ i % 2 ≡ 1 → count_ones (n % 2 ^ i) < count_ones n
ones_below_lt i n h = omega (arith, ones_split i n, ones_half (n / 2 ^ i), h)

module _ {X : Type 0} where
  pub none_below : (w n m bits : ℕ) (xs : List X) → m < n → find nat_cmp m (at_places w n bits xs) ≡ None
  none_below zero n m bits xs h = refl
  none_below (suc w) n m bits [] h = refl
  none_below (suc w) n m bits (x ∷ xs) h =
      let r = none_below w (suc n) m (bits / 2) xs (omega (arith, h)) in
      let s = none_below w (suc n) m (bits / 2) (x ∷ xs) (omega (arith, h)) in
      elim (eqb (bits % 2) 1) as (λ b. find nat_cmp m (cond b ((n, x) ∷ at_places w (suc n) (bits / 2) xs) (at_places w (suc n) (bits / 2) (x ∷ xs))) ≡ None) [
        | true ↦ grind (arith, nat_tests)
        | false ↦ s
      ]

  at_zero : (n bits : ℕ) (x : X) (xs es fs : List (ℕ × X)) (d : X) → bits % 2 ≡ 1 → find nat_cmp (n + 0) (cond (eqb (bits % 2) 1) ((n, x) ∷ es) fs) ≡ Some x
  at_zero n bits x xs es fs d h = let e : eqb (bits % 2) 1 ≡ true = grind (arith, nat_tests) in rw e (grind (arith, nat_tests))

  tail_of : (k m : ℕ) (x : X) (xs : List X) (d : X) → k ≡ m + 1 → get_or (x ∷ xs) k d ≡ get_or xs m d
  tail_of k m x xs d e = let f : k ≡ suc m = omega (arith, e) in rw f refl

  past : (m n : ℕ) (x : X) (es : List (ℕ × X)) → n < m → find nat_cmp m ((n, x) ∷ es) ≡ find nat_cmp m es
  past m n x es h = grind (arith, nat_tests)

  -- at a place whose bit is not set nothing stands
  pub at_unset : (w n i bits : ℕ) (xs : List X) → bits / 2 ^ i % 2 ≡ 0 → find nat_cmp (n + i) (at_places w n bits xs) ≡ None
  at_unset zero n i bits xs h = refl
  at_unset (suc w) n i bits [] h = refl
  at_unset (suc w) n zero bits (x ∷ xs) h =
      let e : eqb (bits % 2) 1 ≡ false = grind (arith, nat_tests) in
      rw e (none_below w (suc n) (n + 0) (bits / 2) (x ∷ xs) (omega arith))
  at_unset (suc w) n (suc i) bits (x ∷ xs) h =
      let q : bits / 2 / 2 ^ i % 2 ≡ 0 = ap (λ y. y % 2) (shr-shr bits 1 i) ∙ let e : 1 + i ≡ suc i = omega arith in rw e h in
      let f : n + suc i ≡ suc n + i = omega arith in
      let r = at_unset w (suc n) i (bits / 2) xs q in
      let s = at_unset w (suc n) i (bits / 2) (x ∷ xs) q in
      rw f (elim (eqb (bits % 2) 1) as (λ b. find nat_cmp (suc n + i) (cond b ((n, x) ∷ at_places w (suc n) (bits / 2) xs) (at_places w (suc n) (bits / 2) (x ∷ xs))) ≡ None) [
        | true ↦ past (suc n + i) n x _ (omega arith) ∙ r
        | false ↦ s
      ])

  -- the thing at a place whose bit is set: as many stand before it as there are set bits below
  pub at_set : (w n i bits : ℕ) (xs : List X) (d : X) → i < w → bits / 2 ^ i % 2 ≡ 1 → count_ones (bits % 2 ^ i) < length xs → find nat_cmp (n + i) (at_places w n bits xs) ≡ Some (get_or xs (count_ones (bits % 2 ^ i)) d)
  at_set zero n i bits xs d l h m = absurd (omega (arith, l))
  at_set (suc w) n i bits [] d l h m = absurd (omega (arith, m))
  at_set (suc w) n zero bits (x ∷ xs) d l h m =
      let z : bits % 2 ^ 0 ≡ 0 = omega arith in
      at_zero n bits x [] _ _ d (omega (arith, h)) ∙ ap Some (sym (get_or_head x xs _ d (ap count_ones z ∙ ones_bit 0 (omega arith))))
  at_set (suc w) n (suc i) bits (x ∷ xs) d l h m =
      let q : bits / 2 / 2 ^ i % 2 ≡ 1 = ap (λ y. y % 2) (shr-shr bits 1 i) ∙ let e : 1 + i ≡ suc i = omega arith in rw e h in
      let f : n + suc i ≡ suc n + i = omega arith in
      let c = ones_below_suc i bits in
      rw f (elim (eqb (bits % 2) 1) as (λ b. eqb (bits % 2) 1 ≡ b → find nat_cmp (suc n + i) (cond b ((n, x) ∷ at_places w (suc n) (bits / 2) xs) (at_places w (suc n) (bits / 2) (x ∷ xs))) ≡ Some (get_or (x ∷ xs) (count_ones (bits % 2 ^ suc i)) d)) [
        | true ↦ λ e.
            let o : bits % 2 ≡ 1 = grind (arith, nat_tests) in
            past (suc n + i) n x _ (omega arith) ∙ at_set w (suc n) i (bits / 2) xs d (omega (arith, l)) q (omega (arith, c, o, m)) ∙ ap Some (sym (tail_of _ _ x xs d (c ∙ ap (λ y. count_ones (bits / 2 % 2 ^ i) + y) o)))
        | false ↦ λ e.
            let o : bits % 2 ≡ 0 = grind (arith, nat_tests) in
            let k : count_ones (bits % 2 ^ suc i) ≡ count_ones (bits / 2 % 2 ^ i) = omega (arith, c, o) in
            rw k (at_set w (suc n) i (bits / 2) (x ∷ xs) d (omega (arith, l)) q (omega (arith, c, o, m)))
      ] refl)
