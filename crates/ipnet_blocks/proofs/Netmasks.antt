-- Masks as digits, and blocks by their masks and ends.
use Rattle.std.proofs.Common.{◌≡◌, ℕ, zero, suc, ◌+◌, ◌-◌, ◌*◌, ◌/◌, ◌%◌, ◌^◌, ◌<◌, ◌≤◌, Bool, true, false, ◌==◌, [], ◌∷◌, ◌++◌, replicate, bit_and, refl, sym, ap, ◌∙◌, subst, arith, append_assoc, append-nil, add-suc, pow-suc}
use Rattle.std.proofs.lemmas.Nat.{pow_pos, shr_split, div-mul-add}
use Rattle.std.proofs.lemmas.Nat.Bits.{and_high_mask}
use Rattle.std.proofs.lemmas.Bool.Decides.{nat_tests}
use Rattle.std.proofs.Math.Nat.{mod-lt}
use Rattle.std.proofs.Math.Pow.{shl-shr}
use Rattle.ipnet_addr.specs.Addresses.{Family, width}
use Rattle.ipnet_addr.specs.Masks.{mask_bits}
use Rattle.ipnet_addr.proofs.Powers.{mask_and_free}
use Rattle.ipnet_blocks.specs.Blocks.{digits, free_bits}
use Rattle.ipnet_blocks.specs.Laws.{BlockIsInterval, MaskIsOnesThenZeros, MaskFindsBlock}
use Rattle.ipnet_blocks.proofs.Strings.{digits_apart}

from_quotient : (n k q : ℕ) → n / 2 ^ k ≡ q → (q * 2 ^ k ≤ n) × (n ≤ q * 2 ^ k + (2 ^ k - 1))
from_quotient n k q e =
    let split : q * 2 ^ k + n % 2 ^ k ≡ n = subst (λ p. p * 2 ^ k + n % 2 ^ k ≡ n) e (shr_split n k) in
    let small : n % 2 ^ k < 2 ^ k = mod-lt n (pow_pos k) in
    (omega arith, omega arith)

to_quotient : (n k q : ℕ) → q * 2 ^ k ≤ n → n ≤ q * 2 ^ k + (2 ^ k - 1) → n / 2 ^ k ≡ q
to_quotient n k q low high =
    let some = pow_pos k in
    let small : n - q * 2 ^ k < 2 ^ k = omega arith in
    let split : q * 2 ^ k + (n - q * 2 ^ k) ≡ n = omega arith in
    ap (λ m. m / 2 ^ k) (sym split) ∙ div-mul-add q (2 ^ k) (n - q * 2 ^ k) small

pub block_is_interval : BlockIsInterval
block_is_interval b x = (
  (λ h. let e = from_quotient x.number (free_bits b) b.quotient h.1 in (h.0, e.0, e.1)),
  (λ h. (h.0, to_quotient x.number (free_bits b) b.quotient h.1 h.2)),
)

replicate_snoc : (k : ℕ) (v : Bool) → replicate k v ++ v ∷ [] ≡ replicate (suc k) v
replicate_snoc zero v = refl
replicate_snoc (suc k) v = ap (λ s. v ∷ s) (replicate_snoc k v)

even : (n a : ℕ) → n ≡ a * 2 → (n / 2 ≡ a) × ((n % 2 == 1) ≡ false)
even n a e = (omega arith, grind (arith, nat_tests))

odd : (n a : ℕ) → n ≡ a * 2 + 1 → (n / 2 ≡ a) × ((n % 2 == 1) ≡ true)
odd n a e = (omega arith, grind (arith, nat_tests))

-- zeros after the digits of a number
digits_shifted : (p k q : ℕ) → digits (p + k) (q * 2 ^ k) ≡ digits p q ++ replicate k false
digits_shifted p zero q =
    let a : p + 0 ≡ p = omega arith in
    let b : q * 2 ^ 0 ≡ q = omega arith in
    ap (λ n. digits n (q * 2 ^ 0)) a ∙ ap (digits p) b ∙ sym (append-nil (digits p q))
digits_shifted p (suc k) q =
    let s = even (q * 2 ^ suc k) (q * 2 ^ k) (omega (arith, ap (λ t. q * t) (pow-suc 2 k))) in
    ap (λ n. digits n (q * 2 ^ suc k)) (add-suc p k)
    ∙ (λ i. digits (p + k) (s.0 i) ++ s.1 i ∷ [])
    ∙ ap (λ t. t ++ false ∷ []) (digits_shifted p k q)
    ∙ append_assoc (digits p q) (replicate k false) (false ∷ [])
    ∙ ap (λ t. digits p q ++ t) (replicate_snoc k false)

digits_ones : (p : ℕ) → digits p (2 ^ p - 1) ≡ replicate p true
digits_ones zero = refl
digits_ones (suc p) =
    let s = odd (2 ^ suc p - 1) (2 ^ p - 1) (omega (arith, pow-suc 2 p, pow_pos p)) in
    (λ i. digits p (s.0 i) ++ s.1 i ∷ []) ∙ ap (λ t. t ++ true ∷ []) (digits_ones p) ∙ replicate_snoc p true

digits_mask : (w len : ℕ) → len ≤ w → digits w (mask_bits w len) ≡ replicate len true ++ replicate (w - len) false
digits_mask w len l =
    let e : len + (w - len) ≡ w = omega arith in
    subst (λ n. digits n (mask_bits w len) ≡ replicate len true ++ replicate (w - len) false) e
    (digits_shifted len (w - len) (2 ^ len - 1) ∙ ap (λ s. s ++ replicate (w - len) false) (digits_ones len))

pub mask_digits : MaskIsOnesThenZeros
mask_digits m len fits = (
  (λ h. (h.0, ap (digits (width m.family)) h.1 ∙ digits_mask (width m.family) len h.0)),
  (λ h. let all = mask_and_free (width m.family) len h.0 in
      let within : mask_bits (width m.family) len < 2 ^ width m.family = omega (arith, pow_pos (width m.family - len)) in
      (h.0, digits_apart (width m.family) m.number (mask_bits (width m.family) len) fits within (h.1 ∙ sym (digits_mask (width m.family) len h.0)))),
)

pub mask_finds : MaskFindsBlock
mask_finds b x m fits f g h =
    let w = width b.family in
    let k = free_bits b in
    let mask : (b.len ≤ w) × (m.number ≡ mask_bits w b.len) = subst (λ (e : Family). (b.len ≤ width e) × (m.number ≡ mask_bits (width e) b.len)) g h in
    let high : m.number ≡ 2 ^ w - 2 ^ k = omega (arith, mask.1, mask_and_free w b.len mask.0) in
    let cut : bit_and x.number m.number ≡ x.number / 2 ^ k * 2 ^ k = rw high (and_high_mask w k (omega arith) x.number (subst (λ (e : Family). x.number < 2 ^ width e) f fits)) in (
      (λ i. cut ∙ ap (λ q. q * 2 ^ k) i.1),
      (λ e. (f, sym (shl-shr (x.number / 2 ^ k) k) ∙ ap (λ n. n / 2 ^ k) (sym cut ∙ e) ∙ shl-shr b.quotient k)),
    )
