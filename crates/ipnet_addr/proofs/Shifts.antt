-- Masks and shifts of keys, from the facts of the calls: v is the width that a call answered.
use Rattle.std.proofs.Common.{◌≡◌, ℕ, ◌+◌, ◌-◌, ◌*◌, ◌/◌, ◌%◌, ◌^◌, ◌<◌, ◌≤◌, sym, ap, subst, ◌∙◌, arith}
use Rattle.std.proofs.lemmas.Nat.{pow_pos, pow-add, mod-pow-add, shl-shr, shr_high}
use Rattle.std.proofs.Math.Nat.{mod-eq_of_lt, mul_assoc, mul_comm, mul-mod_left, add-mul, mul-lt-mul_of_pos_right}

ones_down : (a b : ℕ) → (2 ^ (a + b) - 1) / 2 ^ b ≡ 2 ^ a - 1
ones_down a b =
    let e : 2 ^ a ≡ 2 ^ a - 1 + 1 = omega (arith, pow_pos a) in
    let m : 2 ^ a * 2 ^ b ≡ (2 ^ a - 1) * 2 ^ b + 1 * 2 ^ b = ap (λ n. n * 2 ^ b) e ∙ add-mul (2 ^ a - 1) 1 (2 ^ b) in
    let s : 2 ^ (a + b) - 1 ≡ (2 ^ a - 1) * 2 ^ b + (2 ^ b - 1) = omega (arith, pow-add 2 a b, m, pow_pos b) in
    ap (λ n. n / 2 ^ b) s ∙ shr_high (2 ^ a - 1) b (2 ^ b - 1) (omega (arith, pow_pos b))

-- all bits of a width
pub whole : (w v : ℕ) → v ≡ w → v ≤ 128 → (2 ^ 128 - 1) / 2 ^ (128 - v) ≡ 2 ^ w - 1
whole w v e h =
    let f : v + (128 - v) ≡ 128 = omega (arith, h) in
    ap (λ i. (2 ^ i - 1) / 2 ^ (128 - v)) (sym f) ∙ ones_down v (128 - v) ∙ ap (λ i. 2 ^ i - 1) e

pub mask : (w v n : ℕ) → v ≡ w → v ≤ 128 → n ≤ w → ((2 ^ 128 - 1) / 2 ^ (128 - v) - (2 ^ 128 - 1) / 2 ^ (128 - v) / 2 ^ n ≡ 2 ^ w - 2 ^ (w - n)) × (2 ^ w - 2 ^ (w - n) < 2 ^ w)
mask w v n e h l =
    let a = whole w v e h in
    let f : w - n + n ≡ w = omega (arith, l) in
    let b : (2 ^ 128 - 1) / 2 ^ (128 - v) / 2 ^ n ≡ 2 ^ (w - n) - 1 = ap (λ k. k / 2 ^ n) a ∙ ap (λ i. (2 ^ i - 1) / 2 ^ n) (sym f) ∙ ones_down (w - n) n in
    (omega (arith, a, b, pow_pos w, pow_pos (w - n)), omega (arith, pow_pos w, pow_pos (w - n)))

-- a multiple of a power, at a greater power
pub mod_up : (q m k : ℕ) → q * 2 ^ k % 2 ^ (m + k) ≡ q % 2 ^ m * 2 ^ k
mod_up q m k = mod-pow-add (q * 2 ^ k) m k ∙ omega (arith, ap (λ n. n % 2 ^ m * 2 ^ k) (shl-shr q k), mul-mod_left q (2 ^ k))

pub up : (w v b n : ℕ) → v ≡ w → v ≤ 128 → b < 2 ^ w → b * 2 ^ (128 - v) % 2 ^ 128 * 2 ^ n % 2 ^ 128 / 2 ^ (128 - v) ≡ b * 2 ^ n % 2 ^ w
up w v b n e h l =
    let f : v + (128 - v) ≡ 128 = omega (arith, h) in
    let g : 2 ^ 128 ≡ 2 ^ v * 2 ^ (128 - v) = ap (λ i. 2 ^ i) (sym f) ∙ pow-add 2 v (128 - v) in
    let m : b < 2 ^ v = subst (λ i. b < 2 ^ i) (sym e) l in
    let k : b * 2 ^ (128 - v) < 2 ^ v * 2 ^ (128 - v) = mul-lt-mul_of_pos_right m (pow_pos (128 - v)) in
    let small : b * 2 ^ (128 - v) % 2 ^ 128 ≡ b * 2 ^ (128 - v) = mod-eq_of_lt (omega (arith, k, g)) in
    let turn : b * 2 ^ (128 - v) * 2 ^ n ≡ b * 2 ^ n * 2 ^ (128 - v) = mul_assoc b (2 ^ (128 - v)) (2 ^ n) ∙ ap (λ x. b * x) (mul_comm (2 ^ (128 - v)) (2 ^ n)) ∙ sym (mul_assoc b (2 ^ n) (2 ^ (128 - v))) in
    ap (λ x. x * 2 ^ n % 2 ^ 128 / 2 ^ (128 - v)) small
    ∙ ap (λ x. x % 2 ^ 128 / 2 ^ (128 - v)) turn
    ∙ ap (λ i. b * 2 ^ n * 2 ^ (128 - v) % 2 ^ i / 2 ^ (128 - v)) (sym f)
    ∙ ap (λ x. x / 2 ^ (128 - v)) (mod_up (b * 2 ^ n) v (128 - v))
    ∙ shl-shr (b * 2 ^ n % 2 ^ v) (128 - v)
    ∙ ap (λ i. b * 2 ^ n % 2 ^ i) e
