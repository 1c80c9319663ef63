-- What is left of a word past its first bits, and whether it begins with others.
use Rattle.std.proofs.Common.{◌≡◌, ℕ, ◌+◌, ◌-◌, ◌*◌, ◌/◌, ◌%◌, ◌^◌, ◌<◌, ◌≤◌, Bool, List, take, drop, sym, ap, subst, ◌∙◌, ◌↔◌, mul_assoc, arith}
use Rattle.std.proofs.lemmas.Nat.{pow_pos, pow-add, shl-shr, shr-shr, shr_below, mod_below}
use Rattle.ipnet_addr.proofs.Shifts.{mod_up}
use Rattle.ipnet_blocks.specs.Blocks.{digits}
use Rattle.ipnet_blocks.proofs.Strings.{digits_apart}
use Rattle.trie_core.specs.InnerPaths.{IsAligned}
use Rattle.trie_core.specs.InnerChains.{Starts, EndsIn}
use Rattle.trie_core.proofs.Aligned.{digits-mod, path_length}
use Rattle.trie_core.proofs.Numbers.{drop-digits, take-digits}
use Rattle.trie_core.proofs.Masked.{take-prefix_bits}

-- the word without its first bits
pub moved : (n bits len : ℕ) → IsAligned bits len → n ≤ len → bits * 2 ^ n % 2 ^ 128 ≡ bits / 2 ^ (128 - len) % 2 ^ (len - n) * 2 ^ (128 - (len - n))
moved n bits len a l =
    let q = bits / 2 ^ (128 - len) in
    let m = len - n in
    let k = 128 - (len - n) in
    let e : 128 - len + n ≡ 128 - (len - n) = omega (arith, l, a.short) in
    let f : len - n + (128 - (len - n)) ≡ 128 = omega (arith, l, a.short) in
    let up : bits * 2 ^ n ≡ q * 2 ^ k = ap (λ w. w * 2 ^ n) (sym a.masked.clear) ∙ mul_assoc q (2 ^ (128 - len)) (2 ^ n) ∙ ap (λ w. q * w) (sym (pow-add 2 (128 - len) n)) ∙ ap (λ i. q * 2 ^ i) e in
    ap (λ w. w % 2 ^ 128) up ∙ ap (λ i. q * 2 ^ k % 2 ^ i) (sym f) ∙ mod_up q m k

pub past_aligned : (n bits len : ℕ) → IsAligned bits len → n ≤ len → IsAligned (bits * 2 ^ n % 2 ^ 128) (len - n)
past_aligned n bits len a l =
    let q = bits / 2 ^ (128 - len) in
    let k = 128 - (len - n) in
    let z = moved n bits len a l in
    record {
      short = omega (arith, a.short);
      masked = record {
        below = mod_below (bits * 2 ^ n) (2 ^ 128) (pow_pos 128);
        clear = ap (λ w. w / 2 ^ k * 2 ^ k) z ∙ ap (λ w. w * 2 ^ k) (shl-shr (q % 2 ^ (len - n)) k) ∙ sym z;
      };
    }

pub past : {bs : List Bool} (n bits len : ℕ) → IsAligned bits len → n ≤ len → digits len (bits / 2 ^ (128 - len)) ≡ bs → digits (len - n) (bits * 2 ^ n % 2 ^ 128 / 2 ^ (128 - (len - n))) ≡ drop n bs
past n bits len a l e =
    let q = bits / 2 ^ (128 - len) in
    let k = 128 - (len - n) in
    ap (λ w. digits (len - n) (w / 2 ^ k)) (moved n bits len a l) ∙ ap (digits (len - n)) (shl-shr (q % 2 ^ (len - n)) k) ∙ digits-mod (len - n) q ∙ sym (drop-digits n len q l) ∙ ap (drop n) e

-- the first bits, where there are so many
starting : {bs : List Bool} (m bits len : ℕ) → IsAligned bits len → digits len (bits / 2 ^ (128 - len)) ≡ bs → m ≤ len → take m bs ≡ digits m (bits / 2 ^ (128 - m))
starting m bits len a e l = ap (take m) (sym e) ∙ take-prefix_bits 128 bits len m a.short l

pub starts : {bs : List Bool} (k skip bits len : ℕ) → IsAligned bits len → digits len (bits / 2 ^ (128 - len)) ≡ bs → 5 * k ≤ len → skip < 2 ^ (5 * k) → (bits / 2 ^ (128 - 5 * k) ≡ skip) ↔ Starts k skip bs
starts {bs} k skip bits len a e l h =
    let w = bits / 2 ^ (128 - 5 * k) in
    let t = starting (5 * k) bits len a e l in
    let z : 5 * k + (128 - 5 * k) ≡ 128 = omega (arith, l, a.short) in
    let b : w < 2 ^ (5 * k) = shr_below bits (5 * k) (128 - 5 * k) (subst (λ i. bits < 2 ^ i) (sym z) a.masked.below) in
    (λ f. (omega (arith, l, path_length {n = len} (bits / 2 ^ (128 - len)) e), t ∙ ap (digits (5 * k)) f), λ s. digits_apart (5 * k) w skip b h (sym t ∙ s.1))

-- the number of the first bits
pub top_bits : {bs : List Bool} (k bits len : ℕ) → IsAligned bits len → digits len (bits / 2 ^ (128 - len)) ≡ bs → 5 * k ≤ len → (bits / 2 ^ (128 - 5 * k) < 2 ^ (5 * k)) × Starts k (bits / 2 ^ (128 - 5 * k)) bs
top_bits {bs} k bits len a e l =
    let z : 5 * k + (128 - 5 * k) ≡ 128 = omega (arith, l, a.short) in
    (shr_below bits (5 * k) (128 - 5 * k) (subst (λ i. bits < 2 ^ i) (sym z) a.masked.below), (omega (arith, l, path_length {n = len} (bits / 2 ^ (128 - len)) e), starting (5 * k) bits len a e l))

-- fewer first bits than those of the levels
pub ends : {bs : List Bool} (k skip bits len : ℕ) → IsAligned bits len → digits len (bits / 2 ^ (128 - len)) ≡ bs → len < 5 * k
    → 5 * k ≤ 128 → skip < 2 ^ (5 * k) → (bits / 2 ^ (128 - 5 * k) / 2 ^ (5 * k - len) ≡ skip / 2 ^ (5 * k - len)) ↔ EndsIn k skip bs
ends {bs} k skip bits len a e l m h =
    let n = 5 * k - len in
    let b = bits / 2 ^ (128 - len) in
    let s = skip / 2 ^ n in
    let x : len + (128 - len) ≡ 128 = omega (arith, a.short) in
    let y : len + n ≡ 5 * k = omega (arith, l) in
    let z : 128 - 5 * k + n ≡ 128 - len = omega (arith, l, m) in
    let w : bits / 2 ^ (128 - 5 * k) / 2 ^ n ≡ b = shr-shr bits (128 - 5 * k) n ∙ ap (λ i. bits / 2 ^ i) z in
    let f = path_length {n = len} b e in
    let front = ap (λ i. take i (digits (5 * k) skip)) (sym f) ∙ take-digits len (5 * k) skip (omega (arith, l)) in
    let b_fits : b < 2 ^ len = shr_below bits len (128 - len) (subst (λ i. bits < 2 ^ i) (sym x) a.masked.below) in
    let s_fits : s < 2 ^ len = shr_below skip len n (subst (λ i. skip < 2 ^ i) (sym y) h) in (
      λ g. (omega (arith, l, f), front ∙ ap (digits len) (sym g ∙ w) ∙ e),
      λ g. w ∙ digits_apart len b s b_fits s_fits (e ∙ sym g.1 ∙ front),
    )
