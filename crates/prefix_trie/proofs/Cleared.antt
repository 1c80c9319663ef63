-- Keys as numbers of 128 bits: shifted to the top, and with zeros after their first bits.
use Rattle.std.proofs.Common.{◌≡◌, ℕ, ◌+◌, ◌-◌, ◌*◌, ◌/◌, ◌%◌, ◌^◌, ◌<◌, ◌≤◌, Bool, true, List, length, take, refl, sym, ap, subst, ◌∙◌, length-take, arith}
use Rattle.std.proofs.lemmas.Nat.{pow_pos, pow-add, shl-shr, shr-shr, shr_split}
use Rattle.std.proofs.Math.Nat.{mod-eq_of_lt, pow-le-pow_right, mul-lt-mul_of_pos_right}
use Rattle.trie_core.specs.Bits.{number_from}
use Rattle.ipnet_blocks.specs.BitStrings.{begins}
use Rattle.trie_core.proofs.Numbers.{number_apart}
use Rattle.ipnet_blocks.proofs.BitStrings.{begins_take, take_begins}

-- what shifts down and up leave
pub cleared : (w r n m : ℕ) → r < 2 ^ w → w ≤ 128 → m ≡ r / 2 ^ (w - n) * 2 ^ (w - n) % 2 ^ 128 → m ≡ r / 2 ^ (w - n) * 2 ^ (w - n)
cleared w r n m b h e =
    let big : 2 ^ w ≤ 2 ^ 128 = pow-le-pow_right {n = 2} (omega arith) h in
    e ∙ mod-eq_of_lt (omega (arith, b, big, shr_split r (w - n)))

-- a key at the top of 128 bits
pub at_top : (w r n : ℕ) → r < 2 ^ w → w ≤ 128 → n ≤ w → r * 2 ^ (128 - w) % 2 ^ 128 / 2 ^ (128 - n) ≡ r / 2 ^ (w - n)
at_top w r n b h l =
    let e : 128 - w + (w - n) ≡ 128 - n = omega arith in
    let f : w + (128 - w) ≡ 128 = omega arith in
    let up : 2 ^ 128 ≡ 2 ^ w * 2 ^ (128 - w) = ap (λ i. 2 ^ i) (sym f) ∙ pow-add 2 w (128 - w) in
    let k : r * 2 ^ (128 - w) < 2 ^ w * 2 ^ (128 - w) = mul-lt-mul_of_pos_right b (pow_pos (128 - w)) in
    let whole : r * 2 ^ (128 - w) % 2 ^ 128 ≡ r * 2 ^ (128 - w) = mod-eq_of_lt (omega (arith, k, up)) in
    ap (λ m. m / 2 ^ (128 - n)) whole ∙ ap (λ i. r * 2 ^ (128 - w) / 2 ^ i) (sym e) ∙ sym (shr-shr (r * 2 ^ (128 - w)) (128 - w) (w - n)) ∙ ap (λ m. m / 2 ^ (w - n)) (shl-shr r (128 - w))

-- a string begins another where their numbers, cut to its length, are one
pub begins_by_numbers : (w : ℕ) (p q : List Bool) → length p ≤ w → length p ≤ length q → (number_from w (take (length p) q) ≡ number_from w p → begins p q ≡ true) × (begins p q ≡ true → number_from w (take (length p) q) ≡ number_from w p)
begins_by_numbers w p q h l = (
  λ e.
      let t : take (length p) q ≡ p = number_apart w (take (length p) q) p (omega (arith, length-take (length p) q, l)) (omega (arith, length-take (length p) q, h)) e in
      ap (λ x. begins x q) (sym t) ∙ take_begins (length p) q,
  λ e. ap (number_from w) (begins_take p q e).1,
)

-- the number that a key masked by shifts has, from the facts of the calls
pub record IsCleared (w r n m : ℕ) : Type 0 where
  pub small : m < 2 ^ w
  pub cut : m ≡ r / 2 ^ (w - n) * 2 ^ (w - n)

pub is_cleared : (w v r b n : ℕ) → v ≡ w → v ≤ 128 → b ≡ r → b < 2 ^ w → IsCleared w r n (b / 2 ^ (v - n) * 2 ^ (v - n) % 2 ^ 128)
is_cleared w v r b n e h f g =
    let k : b / 2 ^ (w - n) * 2 ^ (w - n) % 2 ^ 128 ≡ b / 2 ^ (w - n) * 2 ^ (w - n) = cleared w b n _ g (omega (arith, e, h)) refl in
    let t : IsCleared w b n (b / 2 ^ (w - n) * 2 ^ (w - n) % 2 ^ 128) = record { small = omega (arith, k, g, shr_split b (w - n)); cut = k } in
    subst (λ (x : ℕ × ℕ). IsCleared w x.1 n (b / 2 ^ (x.0 - n) * 2 ^ (x.0 - n) % 2 ^ 128)) (λ i. (sym e i, f i)) t
