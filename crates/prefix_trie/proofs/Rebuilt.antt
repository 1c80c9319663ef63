-- The key of a path, for the prefix of its bits.
use Rattle.std.proofs.Common.{◌≡◌, ℕ, ◌+◌, ◌-◌, ◌*◌, ◌/◌, ◌^◌, ◌<◌, ◌≤◌, Bool, List, length, sym, ap, subst, ◌∙◌, mul_assoc, arith}
use Rattle.std.proofs.lemmas.Nat.{pow-add, shl-shr, shr-shr, shr_below}
use Rattle.ipnet_blocks.specs.Blocks.{digits}
use Rattle.trie_core.specs.Prefixes.{prefix_bits, IsMasked}

-- the top of 128 bits as a key of w bits, whose number is k
pub record IsRebuilt (w v b k n : ℕ) (s : List Bool) : Type 0 where
  pub below : b / 2 ^ (128 - v) < 2 ^ w
  pub bits : k ≡ b / 2 ^ (128 - v) → prefix_bits w k n ≡ s
  pub masked : k ≡ b / 2 ^ (128 - v) → IsMasked w k n

rebuilt_by : (w b n : ℕ) (s : List Bool) → IsMasked 128 b n → prefix_bits 128 b n ≡ s → n ≤ w → w ≤ 128 → (b / 2 ^ (128 - w) < 2 ^ w) × (prefix_bits w (b / 2 ^ (128 - w)) n ≡ s) × IsMasked w (b / 2 ^ (128 - w)) n
rebuilt_by w b n s m e h l =
    let c = b / 2 ^ (128 - n) in
    let whole : w + (128 - w) ≡ 128 = omega (arith, l) in
    let apart : 128 - n ≡ w - n + (128 - w) = omega (arith, h, l) in
    let back : 128 - w + (w - n) ≡ 128 - n = omega (arith, h, l) in
    let small : b / 2 ^ (128 - w) < 2 ^ w = shr_below b w (128 - w) (subst (λ i. b < 2 ^ i) (sym whole) m.below) in
    let up : b ≡ c * 2 ^ (w - n) * 2 ^ (128 - w) = sym m.clear ∙ ap (λ i. c * 2 ^ i) apart ∙ ap (λ x. c * x) (pow-add 2 (w - n) (128 - w)) ∙ sym (mul_assoc c (2 ^ (w - n)) (2 ^ (128 - w))) in
    let top : b / 2 ^ (128 - w) ≡ c * 2 ^ (w - n) = ap (λ x. x / 2 ^ (128 - w)) up ∙ shl-shr (c * 2 ^ (w - n)) (128 - w) in (
      small,
      ap (digits n) (shr-shr b (128 - w) (w - n) ∙ ap (λ i. b / 2 ^ i) back) ∙ e,
      record { below = small; clear = ap (λ x. x / 2 ^ (w - n) * 2 ^ (w - n)) top ∙ ap (λ x. x * 2 ^ (w - n)) (shl-shr c (w - n)) ∙ sym top },
    )

pub rebuilt : (w v b k n : ℕ) (s : List Bool) → v ≡ w → v ≤ 128 → n ≡ length s → length s ≤ w → IsMasked 128 b (length s) → prefix_bits 128 b (length s) ≡ s → IsRebuilt w v b k n s
rebuilt w v b k n s e f g h m q =
    rw (e, g) (
    let t = rebuilt_by w b (length s) s m q h (omega (arith, e, f)) in
    record {
      below = t.0;
      bits = λ z. ap (λ x. prefix_bits w x (length s)) z ∙ t.1;
      masked = λ z. subst (λ x. IsMasked w x (length s)) (sym z) t.2;
    }
    )
