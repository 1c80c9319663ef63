-- Bit strings at the top of a word.
use Rattle.std.proofs.Common.{◌≡◌, ℕ, ◌+◌, ◌-◌, ◌*◌, ◌/◌, ◌%◌, ◌^◌, ◌<◌, ◌≤◌, Bool, List, length, drop, sym, ap, subst, ◌∙◌, arith, inl, inr}
use Rattle.std.proofs.lemmas.Nat.{pow_pos, pow-add, shl-shr, shr-shr, shr_below, shr_split, mod_below}
use Rattle.std.proofs.Math.Nat.{mod-mod, mul_assoc, mod-eq_of_lt}
use Rattle.ipnet_addr.proofs.Shifts.{mod_up}
use Rattle.ipnet_blocks.specs.Blocks.{digits}
use Rattle.ipnet_blocks.proofs.Strings.{length-digits}
use Rattle.trie_core.specs.InnerPlaces.{child_of}
use Rattle.trie_core.specs.InnerPaths.{IsAligned}
use Rattle.trie_core.proofs.Numbers.{number-digits, number-long, number_apart, drop-digits}
use Rattle.std.proofs.lemmas.Bool.{cases_lt}

-- the digits of a number are those of its low part
pub digits-mod : (m q : ℕ) → digits m (q % 2 ^ m) ≡ digits m q
digits-mod m q =
    number_apart m (digits m (q % 2 ^ m)) (digits m q) (omega (arith, length-digits m (q % 2 ^ m), length-digits m q)) (omega (arith, length-digits m (q % 2 ^ m)))
    (number-digits m m (q % 2 ^ m) (omega arith) ∙ ap (λ n. n * 2 ^ (m - m)) (mod-mod q (2 ^ m)) ∙ sym (number-digits m m q (omega arith)))

-- the length of a path
pub path_length : {n : ℕ} {bs : List Bool} (q : ℕ) → digits n q ≡ bs → n ≡ length bs
path_length {n} q e = sym (length-digits n q) ∙ ap length e

five_by : (bits len : ℕ) → IsAligned bits len → child_of (digits len (bits / 2 ^ (128 - len))) ≡ bits / 2 ^ 123
five_by bits len a = elim (cases_lt len 5) [
  | inl l ↦
      let q = bits / 2 ^ (128 - len) in
      let e : len + (128 - len) ≡ 128 = omega (arith, l) in
      let fit : bits / 2 ^ (128 - len) < 2 ^ len = shr_below bits len (128 - len) (subst (λ i. bits < 2 ^ i) (sym e) a.masked.below) in
      let f : 5 - len + 123 ≡ 128 - len = omega (arith, l) in
      let up : bits ≡ q * 2 ^ (5 - len) * 2 ^ 123 = sym a.masked.clear ∙ ap (λ i. q * 2 ^ i) (sym f) ∙ ap (λ n. q * n) (pow-add 2 (5 - len) 123) ∙ sym (mul_assoc q (2 ^ (5 - len)) (2 ^ 123)) in
      number-digits 5 len q (omega (arith, l)) ∙ ap (λ n. n * 2 ^ (5 - len)) (mod-eq_of_lt fit) ∙ sym (shl-shr (q * 2 ^ (5 - len)) 123) ∙ ap (λ n. n / 2 ^ 123) (sym up)
  | inr l ↦
      let e : 128 - len + (len - 5) ≡ 123 = omega (arith, l, a.short) in
      let fit : bits / 2 ^ 123 < 2 ^ 5 = shr_below bits 5 123 a.masked.below in
      number-long 5 len (bits / 2 ^ (128 - len)) l ∙ ap (λ n. n % 2 ^ 5) (shr-shr bits (128 - len) (len - 5) ∙ ap (λ i. bits / 2 ^ i) e) ∙ omega (arith, fit)
]

-- the first five bits
pub five : {bs : List Bool} (bits len : ℕ) → IsAligned bits len → digits len (bits / 2 ^ (128 - len)) ≡ bs → bits / 2 ^ 123 ≡ child_of bs
five bits len a e = sym (five_by bits len a) ∙ ap child_of e

-- the word without its first five bits
pub moved : (bits len : ℕ) → IsAligned bits len → 5 ≤ len → bits * 2 ^ 5 % 2 ^ 128 ≡ bits / 2 ^ (128 - len) % 2 ^ (len - 5) * 2 ^ (128 - (len - 5))
moved bits len a l =
    let q = bits / 2 ^ (128 - len) in
    let m = len - 5 in
    let k = 128 - (len - 5) in
    let e : 128 - len + 5 ≡ 128 - (len - 5) = omega (arith, l, a.short) in
    let f : len - 5 + (128 - (len - 5)) ≡ 128 = omega (arith, l, a.short) in
    let up : bits * 2 ^ 5 ≡ q * 2 ^ k = ap (λ n. n * 2 ^ 5) (sym a.masked.clear) ∙ mul_assoc q (2 ^ (128 - len)) (2 ^ 5) ∙ ap (λ n. q * n) (sym (pow-add 2 (128 - len) 5)) ∙ ap (λ i. q * 2 ^ i) e in
    ap (λ n. n % 2 ^ 128) up ∙ ap (λ i. q * 2 ^ k % 2 ^ i) (sym f) ∙ mod_up q m k

pub rest_aligned : (bits len : ℕ) → IsAligned bits len → 5 ≤ len → IsAligned (bits * 2 ^ 5 % 2 ^ 128) (len - 5)
rest_aligned bits len a l =
    let q = bits / 2 ^ (128 - len) in
    let k = 128 - (len - 5) in
    let z = moved bits len a l in
    record {
      short = omega (arith, a.short);
      masked = record {
        below = mod_below (bits * 2 ^ 5) (2 ^ 128) (pow_pos 128);
        clear = ap (λ n. n / 2 ^ k * 2 ^ k) z ∙ ap (λ n. n * 2 ^ k) (shl-shr (q % 2 ^ (len - 5)) k) ∙ sym z;
      };
    }

pub rest : {bs : List Bool} (bits len : ℕ) → IsAligned bits len → 5 ≤ len → digits len (bits / 2 ^ (128 - len)) ≡ bs → digits (len - 5) (bits * 2 ^ 5 % 2 ^ 128 / 2 ^ (128 - (len - 5))) ≡ drop 5 bs
rest bits len a l e =
    let q = bits / 2 ^ (128 - len) in
    let k = 128 - (len - 5) in
    ap (λ n. digits (len - 5) (n / 2 ^ k)) (moved bits len a l) ∙ ap (digits (len - 5)) (shl-shr (q % 2 ^ (len - 5)) k) ∙ digits-mod (len - 5) q ∙ sym (drop-digits 5 len q l) ∙ ap (drop 5) e

-- the first bits of a word, and zeros
pub cleared : (bits len : ℕ) → bits < 2 ^ 128 → bits / 2 ^ (128 - len) * 2 ^ (128 - len) % 2 ^ 128 ≡ bits / 2 ^ (128 - len) * 2 ^ (128 - len)
cleared bits len h = omega (arith, h, shr_split bits (128 - len))
