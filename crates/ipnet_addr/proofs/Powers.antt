-- Masks and the last bits of a number, by powers of two.
use Rattle.std.proofs.Common.{◌≡◌, ℕ, suc, ◌+◌, ◌-◌, ◌*◌, ◌/◌, ◌^◌, ◌<◌, ◌≤◌, inl, inr, sym, ap, ◌∙◌, subst, arith, shr_lt}
use Rattle.std.proofs.lemmas.Nat.{pow-add, pow_pos, pow_below}
use Rattle.std.proofs.lemmas.Bool.{cases_lt}
use Rattle.std.proofs.Math.Nat.{pow-le-pow_right, pow-suc, mul-le-mul_right}
use Rattle.ipnet_addr.specs.Masks.{mask_bits}

product : (b m : ℕ) → (b + 1 - 1) * m + m ≡ (b + 1) * m
product b m = let e : b + 1 - 1 ≡ b = omega arith in rw e (omega arith)

less_one : (a m : ℕ) → 0 < a → (a - 1) * m + m ≡ a * m
less_one a m h = let e : a - 1 + 1 ≡ a = omega arith in rw e at (product (a - 1) m)

-- a mask and the block that it leaves free make up all
pub mask_and_free : (bits len : ℕ) → len ≤ bits → mask_bits bits len + 2 ^ (bits - len) ≡ 2 ^ bits
mask_and_free bits len l =
    let e : len + (bits - len) ≡ bits = omega arith in
    less_one (2 ^ len) (2 ^ (bits - len)) (pow_pos len) ∙ sym (pow-add 2 len (bits - len)) ∙ ap (λ n. 2 ^ n) e

-- a number of ones has as many bits
pub ones_len : (number bits k : ℕ) → number ≡ 2 ^ k - 1 → number < 2 ^ bits → (0 < bits → 2 ^ (bits - 1) ≤ number) → bits ≡ k
ones_len number bits k is below shortest =
    let some : 0 < 2 ^ k = pow_pos k in
    elim (cases_lt k bits) [
      | inl less ↦
          let p : 2 ^ k ≤ 2 ^ (bits - 1) = pow-le-pow_right (omega arith) (omega arith) in
          absurd (omega (arith, shortest (omega arith)))
      | inr more ↦ elim (cases_lt bits k) [
        | inl less ↦ let p : 2 ^ bits * 2 ≤ 2 ^ k = (let q : 2 ^ suc bits ≤ 2 ^ k = pow-le-pow_right (omega arith) (omega arith) in omega (arith, pow-suc 2 bits)) in absurd (omega (arith, pow_pos bits))
        | inr same ↦ omega arith
      ]
    ]

-- no more bits than the width
pub bits_within : (number bits width : ℕ) → number < 2 ^ width → (0 < bits → 2 ^ (bits - 1) ≤ number) → bits ≤ width
bits_within number bits width below shortest = elim (cases_lt width bits) [
  | inl less ↦ let p : 2 ^ width ≤ 2 ^ (bits - 1) = pow-le-pow_right (omega arith) (omega arith) in absurd (omega (arith, shortest (omega arith)))
  | inr more ↦ more
]

-- the last address of a block is within the width of its first
pub filled_fits : (number free width : ℕ) → free ≤ width → number < 2 ^ width → number / 2 ^ free * 2 ^ free + (2 ^ free - 1) < 2 ^ width
filled_fits number free width l h =
    let e : width - free + free ≡ width = omega arith in
    let q : number / 2 ^ free < 2 ^ (width - free) = shr_lt (width - free) free (subst (λ n. number < 2 ^ n) (sym e) h) in
    let m : suc (number / 2 ^ free) * 2 ^ free ≤ 2 ^ (width - free) * 2 ^ free = mul-le-mul_right (2 ^ free) q in
    let w : 2 ^ (width - free) * 2 ^ free ≡ 2 ^ width = sym (pow-add 2 (width - free) free) ∙ ap (λ n. 2 ^ n) e in
    let some : 0 < 2 ^ free = pow_pos free in
    omega arith

-- a mask has one length
pub mask_unique : (bits len other : ℕ) → len ≤ bits → other ≤ bits → mask_bits bits len ≡ mask_bits bits other → len ≡ other
mask_unique bits len other l k e =
    let p : 2 ^ (bits - len) ≡ 2 ^ (bits - other) = omega (arith, mask_and_free bits len l, mask_and_free bits other k) in
    elim (cases_lt (bits - len) (bits - other)) [
      | inl less ↦ absurd (omega (arith, pow_below (bits - len) (bits - other) less))
      | inr more ↦ elim (cases_lt (bits - other) (bits - len)) [
        | inl less ↦ absurd (omega (arith, pow_below (bits - other) (bits - len) less))
        | inr same ↦ omega arith
      ]
    ]
