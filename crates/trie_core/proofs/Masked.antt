-- Numbers of some bits as strings of their first bits.
use Rattle.std.proofs.Common.{◌≡◌, ℕ, ◌+◌, ◌-◌, ◌*◌, ◌/◌, ◌^◌, ◌<◌, ◌≤◌, length, take, sym, ap, subst, ◌∙◌, mod-eq_of_lt, arith}
use Rattle.std.proofs.lemmas.Nat.{shl-shr, shr-shr, shr_below, shr_split}
use Rattle.ipnet_blocks.specs.Blocks.{digits}
use Rattle.ipnet_blocks.proofs.Strings.{length-digits}
use Rattle.trie_core.specs.Bits.{number_from}
use Rattle.trie_core.specs.Prefixes.{prefix_bits, IsMasked}
use Rattle.trie_core.proofs.Numbers.{take-digits, number-digits}

pub length-prefix_bits : (w r n : ℕ) → length (prefix_bits w r n) ≡ n
length-prefix_bits w r n = length-digits n (r / 2 ^ (w - n))

pub take-prefix_bits : (w r n k : ℕ) → n ≤ w → k ≤ n → take k (prefix_bits w r n) ≡ prefix_bits w r k
take-prefix_bits w r n k h l =
    let e : w - n + (n - k) ≡ w - k = omega arith in
    take-digits k n (r / 2 ^ (w - n)) l ∙ ap (digits k) (shr-shr r (w - n) (n - k) ∙ ap (λ i. r / 2 ^ i) e)

-- the number that the first n bits form, with zeros after them
pub number-prefix : (w r n : ℕ) → r < 2 ^ w → n ≤ w → number_from w (prefix_bits w r n) ≡ r / 2 ^ (w - n) * 2 ^ (w - n)
number-prefix w r n b h =
    let e : n + (w - n) ≡ w = omega arith in
    let fit : r / 2 ^ (w - n) < 2 ^ n = shr_below r n (w - n) (subst (λ i. r < 2 ^ i) (sym e) b) in
    number-digits w n (r / 2 ^ (w - n)) h ∙ ap (λ m. m * 2 ^ (w - n)) (mod-eq_of_lt fit)

pub is_masked : (w r n m : ℕ) → r < 2 ^ w → m ≡ r / 2 ^ (w - n) * 2 ^ (w - n) → IsMasked w m n
is_masked w r n m b e = record {
  below = omega (arith, b, e, shr_split r (w - n));
  clear = ap (λ k. k / 2 ^ (w - n) * 2 ^ (w - n)) e ∙ ap (λ k. k * 2 ^ (w - n)) (shl-shr (r / 2 ^ (w - n)) (w - n)) ∙ sym e;
}

pub masked_bits : (w r n m : ℕ) → m ≡ r / 2 ^ (w - n) * 2 ^ (w - n) → prefix_bits w m n ≡ prefix_bits w r n
masked_bits w r n m e = ap (digits n) (ap (λ k. k / 2 ^ (w - n)) e ∙ shl-shr (r / 2 ^ (w - n)) (w - n))

-- a masked number is the one of its first bits
pub masked_number : (w r n : ℕ) → n ≤ w → IsMasked w r n → number_from w (prefix_bits w r n) ≡ r
masked_number w r n h m = number-prefix w r n m.below h ∙ m.clear
