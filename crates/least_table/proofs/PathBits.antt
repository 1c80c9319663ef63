-- The bits of a path, one by one.
use Rattle.std.proofs.Common.{◌≡◌, ℕ, zero, suc, ◌+◌, ◌-◌, ◌*◌, ◌/◌, ◌%◌, ◌==◌, ◌^◌, ◌<◌, ◌≤◌, Bool, true, false, List, [], ◌∷◌, ◌++◌, length, slice_index_or, sym, ap, ap₂, ◌∙◌, subst, cond, inl, inr, nat_lt, shr-shr, bit_xor, arith}
use Rattle.std.proofs.lemmas.Bool.{ltb-true, ltb-false, cases_Bool}
use Rattle.std.proofs.lemmas.List.{get_or_append_left, get_or_push}
use Rattle.ipnet_blocks.specs.Blocks.{digits}
use Rattle.ipnet_blocks.proofs.Strings.{length-digits}
use Rattle.trie_core.specs.Prefixes.{prefix_bits}
use Rattle.std.specs.Int.Count.{count_leading_zeros, leading_unique}
use Rattle.std.proofs.lemmas.Nat.{xor_block, xor_lt}
use Rattle.std.proofs.Math.Pow.{pow-lt}
use Rattle.trie_core.proofs.Longer.{digits-append}
use Rattle.trie_core.specs.Bits.{number_from}
use Rattle.trie_core.specs.Prefixes.{IsMasked}
use Rattle.trie_core.proofs.Masked.{masked_number}
use Rattle.trie_core.proofs.Numbers.{number_bound}
use Rattle.least_table.specs.InnerPieces.{before, shared}

pub bit_of_digits : (n q i : ℕ) → i < n → slice_index_or (digits n q) i false ≡ (q / 2 ^ (n - 1 - i) % 2 == 1)
bit_of_digits zero q i l = absurd (omega (arith, l))
bit_of_digits (suc n) q i l = elim (cases_Bool (nat_lt i n)) [
  | inl e ↦
      (let m : i < n = ltb-true _ _ e in
      let k : 1 + (n - 1 - i) ≡ suc n - 1 - i = omega (arith, m) in
      get_or_append_left (digits n (q / 2)) ((q % 2 == 1) ∷ []) false i (omega (arith, m, length-digits n (q / 2))) ∙ bit_of_digits n (q / 2) i m ∙ ap (λ x. x % 2 == 1) (shr-shr q 1 (n - 1 - i) ∙ ap (λ j. q / 2 ^ j) k))
  | inr e ↦
      (let m : i ≡ n = omega (arith, l, ltb-false _ _ e) in
      let k : suc n - 1 - i ≡ 0 = omega (arith, m) in
      let z : q / 1 ≡ q = omega arith in
      get_or_push (digits n (q / 2)) (q % 2 == 1) false i (length-digits n (q / 2) ∙ sym m) ∙ sym (ap (λ j. q / 2 ^ j % 2 == 1) k ∙ ap (λ x. x % 2 == 1) z))
]

-- the bits of a string at the top of 128 bits
pub bit_at_top : (r i : ℕ) (s : List Bool) → prefix_bits 128 r (length s) ≡ s → i < length s → length s ≤ 128 → (r / 2 ^ (127 - i) % 2 == 1) ≡ slice_index_or s i false
bit_at_top r i s e l m =
    let n = length s in
    let k : 128 - length s + (length s - 1 - i) ≡ 127 - i = omega (arith, l, m) in
    sym (ap (λ t. slice_index_or t i false) (sym e) ∙ bit_of_digits n (r / 2 ^ (128 - n)) i l ∙ ap (λ x. x % 2 == 1) (shr-shr r (128 - n) (n - 1 - i) ∙ ap (λ j. r / 2 ^ j) k))

-- ---- what two strings have in common

number_of_path : (r : ℕ) (s : List Bool) → length s ≤ 128 → prefix_bits 128 r (length s) ≡ s → IsMasked 128 r (length s) → r ≡ number_from 128 s
number_of_path r s l e m = sym (masked_number 128 r (length s) l m) ∙ ap (number_from 128) e

one_bit : (k : ℕ) (x : Bool) (s : List Bool) → number_from (suc k) (x ∷ s) ≡ cond x 1 0 * 2 ^ k + number_from k s
one_bit k x s = grind arith

one_more : (k : ℕ) (x y : Bool) (s t : List Bool) → bit_xor (number_from (suc k) (x ∷ s)) (number_from (suc k) (y ∷ t)) ≡ bit_xor (cond x 1 0) (cond y 1 0) * 2 ^ k + bit_xor (number_from k s) (number_from k t)
one_more k x y s t = ap₂ bit_xor (one_bit k x s) (one_bit k y t) ∙ xor_block k (cond x 1 0) (cond y 1 0) (number_from k s) (number_from k t) (number_bound k s) (number_bound k t)

-- where two strings part, their numbers do
abbrev Part : ℕ → List Bool → List Bool → ℕ → Type 0
Part k s t n = (m : ℕ) × (shared s t + suc m ≡ k) × (2 ^ m ≤ n) × (n < 2 ^ suc m)

part : (k : ℕ) (s t : List Bool) → before s t ≡ true → length s ≤ k → length t ≤ k → Part k s t (bit_xor (number_from k s) (number_from k t))
part zero (x ∷ s) (y ∷ t) e l m = absurd (omega (arith, l))
part (suc k) (false ∷ s) (false ∷ t) e l m =
    let r = part k s t e (omega (arith, l)) (omega (arith, m)) in
    subst (Part (suc k) (false ∷ s) (false ∷ t)) (sym (one_more k false false s t)) (r.0, omega (arith, r.1), omega (arith, r.2), omega (arith, r.3))
part (suc k) (true ∷ s) (true ∷ t) e l m =
    let r = part k s t e (omega (arith, l)) (omega (arith, m)) in
    subst (Part (suc k) (true ∷ s) (true ∷ t)) (sym (one_more k true true s t)) (r.0, omega (arith, r.1), omega (arith, r.2), omega (arith, r.3))
part (suc k) (false ∷ s) (true ∷ t) e l m =
    subst (Part (suc k) (false ∷ s) (true ∷ t)) (sym (one_more k false true s t)) (k, omega arith, omega arith, omega (arith, xor_lt k (number_from k s) (number_from k t) (number_bound k s) (number_bound k t)))
part _ s t e l m = cc

pub parted : (r q : ℕ) (s t : List Bool) → before s t ≡ true → length s ≤ 128 → length t ≤ 128 → prefix_bits 128 r (length s) ≡ s → IsMasked 128 r (length s) → prefix_bits 128 q (length t) ≡ t → IsMasked 128 q (length t)
    → count_leading_zeros 128 (bit_xor r q) ≡ shared s t
parted r q s t e l m f a g b =
    let p = part 128 s t e l m in
    let x : bit_xor r q ≡ bit_xor (number_from 128 s) (number_from 128 t) = ap₂ bit_xor (number_of_path r s l f a) (number_of_path q t m g b) in
    sym (leading_unique 128 (bit_xor r q) (shared s t) (suc p.0) p.1 (omega (arith, p.3, x)) (omega (arith, p.2, x)))

-- ---- one bit more at the front of a number's

pub one_above : (n q : ℕ) (b : Bool) → n < 16 → q < 2 ^ n → digits (n + 1) (cond b 1 0 * 2 ^ n % 65536 + q) ≡ b ∷ digits n q
one_above n q b l m =
    let e : n + 1 ≡ 1 + n = omega arith in
    ap₂ digits e (ap (λ x. x + q) (small b)) ∙ digits-append 1 n (cond b 1 0) q m ∙ ap (λ ds. ds ++ digits n q) (one b)
  where
    one : (c : Bool) → digits 1 (cond c 1 0) ≡ c ∷ []
    one c = grind arith

    small : (c : Bool) → cond c 1 0 * 2 ^ n % 65536 ≡ cond c 1 0 * 2 ^ n
    small true = let p : 2 ^ n < 2 ^ 16 = pow-lt {i = n} {j = 16} l in omega (arith, p)
    small false = omega arith
