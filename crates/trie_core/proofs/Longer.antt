-- Strings made longer at their ends, and strings as numbers with zeros after them.
use Rattle.std.proofs.Common.{◌≡◌, ℕ, zero, suc, ◌+◌, ◌-◌, ◌*◌, ◌/◌, ◌%◌, ◌^◌, ◌<◌, ◌≤◌, Bool, ◌==◌, List, [], ◌∷◌, ◌++◌, length, sym, ap, subst, ◌∙◌, cond, true, false, append_assoc, append-nil, mul_assoc, mod-eq_of_lt, mul-le-mul_right, add-mul, one-mul, le-mul_of_pos_right, arith}
use Rattle.std.proofs.lemmas.Nat.{pow_pos, pow-add, shl-shr, shr_below}
use Rattle.ipnet_blocks.specs.Blocks.{digits}
use Rattle.ipnet_blocks.proofs.Strings.{length-digits}
use Rattle.trie_core.specs.Bits.{number_from}
use Rattle.trie_core.specs.InnerPaths.{IsAligned}
use Rattle.trie_core.specs.Prefixes.{prefix_bits, IsMasked}
use Rattle.trie_core.proofs.Numbers.{number_bound, number_apart, number-digits}
use mir.Val.{bool_byte}

-- the bits of two numbers, one after the other
pub digits-append : (n m q f : ℕ) → f < 2 ^ m → digits (n + m) (q * 2 ^ m + f) ≡ digits n q ++ digits m f
digits-append n zero q f h =
    let z : q * 2 ^ 0 + f ≡ q = omega (arith, h) in
    let e : n + 0 ≡ n = omega arith in
    (λ i. digits (e i) (z i)) ∙ sym (append-nil (digits n q))
digits-append n (suc m) q f h =
    let d : 2 ^ suc m ≡ 2 * 2 ^ m = omega arith in
    let e : n + suc m ≡ suc (n + m) = omega arith in
    let p : q * 2 ^ suc m ≡ q * 2 ^ m * 2 = let s : suc m ≡ m + 1 = omega arith in ap (λ i. q * 2 ^ i) s ∙ ap (λ x. q * x) (pow-add 2 m 1) ∙ sym (mul_assoc q (2 ^ m) 2) in
    let half : (q * 2 ^ suc m + f) / 2 ≡ q * 2 ^ m + f / 2 = omega (arith, p) in
    let low : (q * 2 ^ suc m + f) % 2 ≡ f % 2 = omega (arith, p) in
    ap (λ k. digits k (q * 2 ^ suc m + f)) e
    ∙ (λ i. digits (n + m) (half i) ++ (low i == 1) ∷ [])
    ∙ ap (λ bs. bs ++ (f % 2 == 1) ∷ []) (digits-append n m q (f / 2) (omega (arith, d, h)))
    ∙ append_assoc (digits n q) (digits m (f / 2)) ((f % 2 == 1) ∷ [])

-- the word of a string of n bits with the m bits of a number after it
pub record IsFollowed (bits n m f r : ℕ) : Type 0 where
  pub fits : r < 2 ^ 128
  pub aligned : IsAligned r (n + m)
  pub value : digits (n + m) (r / 2 ^ (128 - (n + m))) ≡ digits n (bits / 2 ^ (128 - n)) ++ digits m f

pub followed : (bits n m f : ℕ) → IsAligned bits n → f < 2 ^ m → n + m ≤ 128 → IsFollowed bits n m f (bits + f * 2 ^ (128 - (n + m)) % 2 ^ 128)
followed bits n m f a fb l =
    let e = 128 - (n + m) in
    let q = bits / 2 ^ (128 - n) in
    let en : n + (128 - n) ≡ 128 = omega (arith, l) in
    let em : 128 - n ≡ m + (128 - (n + m)) = omega (arith, l) in
    let whole : n + m + (128 - (n + m)) ≡ 128 = omega (arith, l) in
    let qb : bits / 2 ^ (128 - n) < 2 ^ n = shr_below bits n (128 - n) (subst (λ i. bits < 2 ^ i) (sym en) a.masked.below) in
    let top : bits ≡ q * 2 ^ m * 2 ^ e = sym a.masked.clear ∙ ap (λ i. q * 2 ^ i) em ∙ ap (λ x. q * x) (pow-add 2 m e) ∙ sym (mul_assoc q (2 ^ m) (2 ^ e)) in
    let small : (q + 1) * 2 ^ m ≤ 2 ^ n * 2 ^ m = let g : q + 1 ≤ 2 ^ n = omega (arith, qb) in mul-le-mul_right (2 ^ m) g in
    let bound : q * 2 ^ m + f + 1 ≤ 2 ^ (n + m) = omega (arith, small, add-mul q 1 (2 ^ m), one-mul (2 ^ m), fb, pow-add 2 n m) in
    let big : (q * 2 ^ m + f + 1) * 2 ^ e ≤ 2 ^ (n + m) * 2 ^ e = mul-le-mul_right (2 ^ e) bound in
    let up : 2 ^ (n + m) * 2 ^ e ≡ 2 ^ 128 = sym (pow-add 2 (n + m) e) ∙ ap (λ i. 2 ^ i) whole in
    let fits : (q * 2 ^ m + f) * 2 ^ e < 2 ^ 128 = omega (arith, big, add-mul (q * 2 ^ m + f) 1 (2 ^ e), one-mul (2 ^ e), pow_pos e, up) in
    let part : f * 2 ^ e % 2 ^ 128 ≡ f * 2 ^ e = mod-eq_of_lt (omega (arith, fits, add-mul (q * 2 ^ m) f (2 ^ e))) in
    let sum : bits + f * 2 ^ e % 2 ^ 128 ≡ (q * 2 ^ m + f) * 2 ^ e = (λ i. top i + part i) ∙ sym (add-mul (q * 2 ^ m) f (2 ^ e)) in
    let back : (q * 2 ^ m + f) * 2 ^ e / 2 ^ e ≡ q * 2 ^ m + f = shl-shr (q * 2 ^ m + f) e in
    rw sum (record {
      fits = fits;
      aligned = record { short = l; masked = record { below = fits; clear = ap (λ x. x * 2 ^ e) back } };
      value = ap (digits (n + m)) back ∙ digits-append n m q f fb;
    })

-- the same with the first m of five bits
pub longer : (bits n five m : ℕ) → IsAligned bits n → IsMasked 5 five m → m ≤ 5 → n + m ≤ 128 → IsFollowed bits n m (five / 2 ^ (5 - m)) (bits + five * 2 ^ 123 % 2 ^ 128 / 2 ^ n)
longer bits n five m a k h l =
    let e = 128 - (n + m) in
    let f = five / 2 ^ (5 - m) in
    let ef : 5 - m + 123 ≡ 128 - (n + m) + n = omega (arith, l, h) in
    let e5 : m + (5 - m) ≡ 5 = omega (arith, h) in
    let fb : five / 2 ^ (5 - m) < 2 ^ m = shr_below five m (5 - m) (subst (λ i. five < 2 ^ i) (sym e5) k.below) in
    let low : five * 2 ^ 123 % 2 ^ 128 ≡ five * 2 ^ 123 = let b = k.below in omega (arith, b) in
    let moved : five * 2 ^ 123 ≡ f * 2 ^ e * 2 ^ n =
    ap (λ x. x * 2 ^ 123) (sym k.clear) ∙ mul_assoc f (2 ^ (5 - m)) (2 ^ 123) ∙ ap (λ x. f * x) (sym (pow-add 2 (5 - m) 123) ∙ ap (λ i. 2 ^ i) ef ∙ pow-add 2 e n) ∙ sym (mul_assoc f (2 ^ e) (2 ^ n)) in
    let part : five * 2 ^ 123 % 2 ^ 128 / 2 ^ n ≡ f * 2 ^ e = ap (λ x. x / 2 ^ n) (low ∙ moved) ∙ shl-shr (f * 2 ^ e) n in
    let small : f * 2 ^ e ≤ f * 2 ^ e * 2 ^ n = le-mul_of_pos_right (f * 2 ^ e) (pow_pos n) in
    let fits : f * 2 ^ e % 2 ^ 128 ≡ f * 2 ^ e = let b = k.below in mod-eq_of_lt (omega (arith, small, moved, b)) in
    subst (λ w. IsFollowed bits n m f (bits + w)) (fits ∙ sym part) (followed bits n m f a fb l)

pub as_number : (b : Bool) → bool_byte b ≡ cond b 1 0
as_number b = grind arith

-- the string of the word with one bit more, which is the first of five
pub record IsExtended (bs : List Bool) (t : Bool) (bits len : ℕ) : Type 0 where
  pub aligned : IsAligned bits len
  pub string : digits len (bits / 2 ^ (128 - len)) ≡ bs ++ t ∷ []

pub extended : {bs : List Bool} (bits n b : ℕ) (t : Bool) → IsAligned bits n → n < 128 → b ≡ cond t 1 0 → digits n (bits / 2 ^ (128 - n)) ≡ bs → IsExtended bs t (bits + b * 2 ^ (128 - (n + 1)) % 2 ^ 128) (n + 1)
extended {bs} bits n b t a l e v =
    let k = 128 - (n + 1) in
    let h : b < 2 = grind arith in
    let m : IsMasked 5 (b * 2 ^ 4) 1 = record { below = omega (arith, h); clear = omega (arith, h) } in
    let r = longer bits n (b * 2 ^ 4) 1 a m (omega arith) (omega (arith, l)) in
    let at : b * 2 ^ 4 * 2 ^ 123 ≡ b * 2 ^ 127 = omega arith in
    let i : 127 ≡ 128 - (n + 1) + n = omega (arith, l) in
    let p : b * 2 ^ 4 * 2 ^ 123 ≡ b * 2 ^ k * 2 ^ n = at ∙ ap (λ j. b * 2 ^ j) i ∙ ap (λ x. b * x) (pow-add 2 k n) ∙ sym (mul_assoc b (2 ^ k) (2 ^ n)) in
    let low : b * 2 ^ 4 * 2 ^ 123 % 2 ^ 128 ≡ b * 2 ^ 4 * 2 ^ 123 = omega (arith, h) in
    let small : b * 2 ^ k ≤ b * 2 ^ k * 2 ^ n = le-mul_of_pos_right (b * 2 ^ k) (pow_pos n) in
    let fits : b * 2 ^ k % 2 ^ 128 ≡ b * 2 ^ k = mod-eq_of_lt (omega (arith, small, p, h)) in
    subst (λ w. IsExtended bs t (bits + w) (n + 1)) (ap (λ x. x / 2 ^ n) (low ∙ p) ∙ shl-shr (b * 2 ^ k) n ∙ sym fits) (record { aligned = r.aligned; string = r.value ∙ (λ i. v i ++ one_bit t e i) })
  where
    one_bit : {b : ℕ} (t : Bool) → b ≡ cond t 1 0 → prefix_bits 5 (b * 2 ^ 4) 1 ≡ t ∷ []
    one_bit true e = ap (λ x. prefix_bits 5 (x * 2 ^ 4) 1) e
    one_bit false e = ap (λ x. prefix_bits 5 (x * 2 ^ 4) 1) e

-- a string is the digits of its number
pub own_digits : (s : List Bool) → digits (length s) (number_from (length s) s) ≡ s
own_digits s =
    let n = length s in
    let q = number_from (length s) s in
    let l = length-digits n q in
    number_apart n (digits n q) s l (omega (arith, l))
    (number-digits n n q (omega arith) ∙ own n q (number_bound n s))
  where
    own : (n q : ℕ) → q < 2 ^ n → q % 2 ^ n * 2 ^ (n - n) ≡ q
    own n q h = let z : n - n ≡ 0 = omega arith in ap (λ i. q % 2 ^ n * 2 ^ i) z ∙ omega (arith, mod-eq_of_lt h)

-- the number that a string forms with zeros after it gives the string back
pub record IsNumbered (w : ℕ) (s : List Bool) : Type 0 where
  pub bits : prefix_bits w (number_from w s) (length s) ≡ s
  pub masked : IsMasked w (number_from w s) (length s)

pub numbered : (w : ℕ) (s : List Bool) → length s ≤ w → IsNumbered w s
numbered w s h =
    let n = length s in
    let q = number_from (length s) s in
    let low : q % 2 ^ n ≡ q = mod-eq_of_lt (number_bound n s) in
    let up : number_from w s ≡ q * 2 ^ (w - n) = ap (number_from w) (sym (own_digits s)) ∙ number-digits w n q h ∙ ap (λ x. x * 2 ^ (w - n)) low in
    let back : number_from w s / 2 ^ (w - n) ≡ q = ap (λ x. x / 2 ^ (w - n)) up ∙ shl-shr q (w - n) in
    record {
      bits = ap (digits n) back ∙ own_digits s;
      masked = record { below = number_bound w s; clear = ap (λ x. x * 2 ^ (w - n)) back ∙ sym up };
    }
