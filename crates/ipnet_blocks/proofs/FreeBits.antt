-- The most free bits of a block that begins at one number and ends at most at another.
use Rattle.std.proofs.Common.{◌≡◌, ℕ, zero, suc, ◌+◌, ◌-◌, ◌*◌, ◌/◌, ◌%◌, ◌^◌, ◌<◌, ◌≤◌, ◌⊎◌, inl, inr, refl, sym, ◌∙◌, ap, arith, min, Bool, true, false, cond, ◌&&◌, nat_le, ◌==◌}
use Rattle.std.specs.Int.Count.{count_leading_zeros, count_trailing_zeros, under}
use Rattle.std.proofs.lemmas.Nat.{pow_pos, pow_below, leading_top}
use Rattle.std.proofs.lemmas.Bool.{cases_lt, cases_eq, and_parts, and_from, leb-true, eqb-true, le-leb, eq-eqb}
use Rattle.std.proofs.Math.Nat.{mod-one, pow-suc}
use Rattle.std.proofs.Math.Arith.{mod-mul}
use Rattle.ipnet_blocks.specs.Cuts.{most_free}

-- a block with k free bits fits
abbrev pub BlockFits : ℕ → ℕ → ℕ → Type 0
BlockFits k s e = (s % 2 ^ k ≡ 0) × (s + 2 ^ k ≤ e + 1)

cond_taken : (b : Bool) (x y : ℕ) → ((b ≡ true) × (cond b x y ≡ x)) ⊎ ((b ≡ false) × (cond b x y ≡ y))
cond_taken true x y = inl (refl, refl)
cond_taken false x y = inr (refl, refl)

step : (k s e : ℕ) → (BlockFits (suc k) s e × (most_free (suc k) s e ≡ suc k)) ⊎ ((BlockFits (suc k) s e → ⊥) × (most_free (suc k) s e ≡ most_free k s e))
unfolding most_free
step k s e =
    let a = s % 2 ^ suc k == 0 in
    let b = nat_le (s + 2 ^ suc k) (e + 1) in
    elim (cond_taken (a && b) (suc k) (most_free k s e)) [
      | inl h ↦ let p = and_parts a b h.0 in inl ((eqb-true (s % 2 ^ suc k) 0 p.0, leb-true (s + 2 ^ suc k) (e + 1) p.1), h.1)
      | inr h ↦ inr ((λ f. let t = and_from a b (eq-eqb (s % 2 ^ suc k) 0 f.0) (le-leb (s + 2 ^ suc k) (e + 1) f.1) in let q : true ≡ false = sym t ∙ h.0 in cc), h.1)
    ]

pub most_free_le : (k s e : ℕ) → most_free k s e ≤ k
unfolding most_free
most_free_le zero s e = omega arith
most_free_le (suc k) s e = let i = most_free_le k s e in elim (step k s e) [ inl h ↦ omega arith | inr h ↦ omega arith ]

pub most_free_fits : (k s e : ℕ) → s ≤ e → BlockFits (most_free k s e) s e
unfolding most_free
most_free_fits zero s e le = (mod-one s, omega arith)
most_free_fits (suc k) s e le =
    let i = most_free_fits k s e le in
    elim (step k s e) [ inl h ↦ rw h.1 (h.0) | inr h ↦ rw h.1 i ]

pub most_free_greatest : (k s e j : ℕ) → j ≤ k → BlockFits j s e → j ≤ most_free k s e
unfolding most_free
most_free_greatest zero s e j le h = le
most_free_greatest (suc k) s e j le h =
    let i : j ≤ k → j ≤ most_free k s e = λ le'. most_free_greatest k s e j le' h in
    elim (step k s e) [
      | inl f ↦ omega arith
      | inr f ↦ elim (cases_eq j (suc k)) [ inl e' ↦ absurd (f.0 (rw e' at h)) | inr ne ↦ let m = i (omega arith) in omega arith ]
    ]

-- the greatest is the one that has these three
most_free_is : (k s e f : ℕ) → s ≤ e → f ≤ k → BlockFits f s e → ((j : ℕ) → j ≤ k → BlockFits j s e → j ≤ f) → f ≡ most_free k s e
most_free_is k s e f le lf h g =
    let a = most_free_greatest k s e f lf h in
    let b = g (most_free k s e) (most_free_le k s e) (most_free_fits k s e le) in
    omega arith

-- the counts of zeros at either end of a number
rem-suc : (n i : ℕ) → n % 2 ^ suc i ≡ (n / 2 % 2 ^ i) * 2 + n % 2
rem-suc n i = ap (λ x. n % x) (pow-suc 2 i) ∙ mod-mul n (pow_pos i) (omega arith)

under_zero : (d t : ℕ) → d ≡ 0 → under d t ≡ suc t
under_zero d t e = ap (λ x. under x t) e

under_one : (d t : ℕ) → 0 < d → under d t ≡ 0
under_one zero t h = absurd (omega arith)
under_one (suc d) t h = refl

trailing_aligned : (k n j : ℕ) → j ≤ count_trailing_zeros k n → n % 2 ^ j ≡ 0
unfolding count_trailing_zeros
trailing_aligned k n zero h = mod-one n
trailing_aligned zero n (suc i) h = absurd (omega arith)
trailing_aligned (suc k) n (suc i) h = elim (cases_lt 0 (n % 2)) [
  | inl odd ↦ absurd (let e = under_one (n % 2) (count_trailing_zeros k (n / 2)) odd in omega arith)
  | inr even ↦
      let e = under_zero (n % 2) (count_trailing_zeros k (n / 2)) (omega arith) in
      let r = trailing_aligned k (n / 2) i (omega arith) in
      omega (arith, rem-suc n i)
]

trailing_greatest : (k n j : ℕ) → j ≤ k → n % 2 ^ j ≡ 0 → j ≤ count_trailing_zeros k n
unfolding count_trailing_zeros
trailing_greatest k n zero le h = omega arith
trailing_greatest zero n (suc i) le h = absurd (omega arith)
trailing_greatest (suc k) n (suc i) le h =
    let r = rem-suc n i in
    let e = under_zero (n % 2) (count_trailing_zeros k (n / 2)) (omega arith) in
    let t = trailing_greatest k (n / 2) i (omega arith) (omega arith) in
    omega arith

-- r is the greatest power of two in the room
free_of_room : (w s e most r : ℕ) → s ≤ e → most ≤ w → 2 ^ r ≤ e - s + 1 → e - s + 1 < 2 ^ suc r → min (min (count_trailing_zeros w s) r) most ≡ most_free most s e
free_of_room w s e most r le lw low high =
    let t = count_trailing_zeros w s in
    let f = min (min t r) most in
    let al : s % 2 ^ f ≡ 0 = trailing_aligned w s f (omega arith) in
    let pw : 2 ^ f ≤ 2 ^ r = elim (cases_lt f r) [ inl lt ↦ let p = pow_below f r lt in omega arith | inr ge ↦ let q : f ≡ r = omega arith in rw q (omega arith) ] in
    let g : (j : ℕ) → j ≤ most → BlockFits j s e → j ≤ f = λ j lj h.
    let a = trailing_greatest w s j (omega arith) h.0 in
    elim (cases_lt r j) [
      | inl lt ↦ absurd (elim (cases_lt (suc r) j) [ inl l2 ↦ let p = pow_below (suc r) j l2 in let q = h.1 in omega arith | inr g2 ↦ let q : j ≡ suc r = omega arith in let z : s + 2 ^ suc r ≤ e + 1 = rw q at h.1 in omega arith ])
      | inr ge ↦ omega arith
    ] in
    most_free_is most s e f le (omega arith) (al, omega arith) g

-- the room by its leading zeros
pub free_by_zeros : (w s e most c r : ℕ) → s ≤ e → most ≤ w → c ≡ e - s + 1 → c < 2 ^ w → r ≡ w - 1 - count_leading_zeros w c → min (min (count_trailing_zeros w s) r) most ≡ most_free most s e
free_by_zeros w s e most c r le lw ec cw er =
    let t = leading_top w c (omega arith) cw in
    let q : r ≡ t.0 = omega (arith, t.1) in
    let low : 2 ^ t.0 ≤ e - s + 1 = omega (arith, t.2) in
    let high : e - s + 1 < 2 ^ suc t.0 = omega (arith, t.3) in
    rw q (free_of_room w s e most t.0 le lw low high)

-- all numbers
pub free_of_all : (w s e most : ℕ) → s ≤ e → e < 2 ^ w → most ≤ w → 2 ^ w ≤ e - s + 1 → min (min (count_trailing_zeros w s) w) most ≡ most_free most s e
free_of_all w s e most le ew lw all =
    let p = pow-suc 2 w in
    let high : e - s + 1 < 2 ^ suc w = omega arith in
    free_of_room w s e most w le lw all high
