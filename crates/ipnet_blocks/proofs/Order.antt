-- The order of blocks is that of their bit strings.
use Rattle.std.proofs.Common.{◌≡◌, ℕ, zero, suc, ◌+◌, ◌-◌, ◌*◌, ◌/◌, ◌%◌, ◌^◌, ◌<◌, ◌≤◌, ◌⊎◌, ◌↔◌, ◌==◌, inl, inr, ⊎_elim, Bool, true, false, List, [], ◌∷◌, ◌++◌, length, refl, sym, ap, ◌∙◌, subst, arith, pow-suc, pow_pos, zero-mul}
use Rattle.std.specs.declared.cmp.Ordering.TheVariants.{Less}
use Rattle.ipnet_addr.specs.Addresses.{width, rank}
use Rattle.ipnet_blocks.specs.Blocks.{Block, IsBlock, IsBefore, first, digits, bit_string}
use Rattle.ipnet_blocks.specs.BitStrings.{bits_cmp}
use Rattle.ipnet_blocks.proofs.Strings.{length-digits}

bit : Bool → ℕ
bit true = 1
bit false = 0

-- the number of a string among those of w bits, filled up with zeros
value : ℕ → List Bool → ℕ
value zero s = 0
value (suc w) [] = 0
value (suc w) (b ∷ s) = bit b * 2 ^ w + value w s

value-nil : (w : ℕ) → value w [] ≡ 0
unfolding value
value-nil zero = refl
value-nil (suc w) = refl

value_below : (w : ℕ) (s : List Bool) → length s ≤ w → value w s < 2 ^ w
unfolding value bit
value_below zero s h = omega arith
value_below (suc w) [] h = pow_pos (suc w)
value_below (suc w) (true ∷ s) h = let i = value_below w s (omega arith) in let e = pow-suc 2 w in omega arith
value_below (suc w) (false ∷ s) h = let i = value_below w s (omega arith) in let e = pow-suc 2 w in omega arith

abbrev Sooner : ℕ → List Bool → List Bool → Type 0
Sooner w s t = (value w s < value w t) ⊎ ((value w s ≡ value w t) × (length s < length t))

earlier_from_sooner : (w : ℕ) (s t : List Bool) → length s ≤ w → length t ≤ w → Sooner w s t → bits_cmp s t ≡ Less
unfolding value bit
earlier_from_sooner w s [] h k (inl l) = absurd (let z = value-nil w in omega arith)
earlier_from_sooner w s [] h k (inr l) = absurd (let m = l.1 in omega arith)
earlier_from_sooner w [] (b ∷ t) h k l = refl
earlier_from_sooner zero (a ∷ s) (b ∷ t) h k l = absurd (omega arith)
earlier_from_sooner (suc w) (false ∷ s) (true ∷ t) h k l = refl
earlier_from_sooner (suc w) (true ∷ s) (false ∷ t) h k l =
    let i = value_below w t (omega arith) in
    absurd (⊎_elim (λ m. omega arith) (λ m. let n = m.0 in omega arith) l)
earlier_from_sooner (suc w) (false ∷ s) (false ∷ t) h k l = earlier_from_sooner w s t (omega arith) (omega arith) (grind arith)
earlier_from_sooner (suc w) (true ∷ s) (true ∷ t) h k l = earlier_from_sooner w s t (omega arith) (omega arith) (grind arith)

sooner_from_earlier : (w : ℕ) (s t : List Bool) → length s ≤ w → length t ≤ w → bits_cmp s t ≡ Less → Sooner w s t
unfolding value bit
sooner_from_earlier w [] [] h k e = absurd (cc)
sooner_from_earlier w (a ∷ s) [] h k e = absurd (cc)
sooner_from_earlier w [] (b ∷ t) h k e = let z = value-nil w in grind arith
sooner_from_earlier zero (a ∷ s) (b ∷ t) h k l = absurd (omega arith)
sooner_from_earlier (suc w) (false ∷ s) (true ∷ t) h k e = let i = value_below w s (omega arith) in inl (omega arith)
sooner_from_earlier (suc w) (true ∷ s) (false ∷ t) h k e = absurd (cc)
sooner_from_earlier (suc w) (false ∷ s) (false ∷ t) h k e = let i = sooner_from_earlier w s t (omega arith) (omega arith) e in grind arith
sooner_from_earlier (suc w) (true ∷ s) (true ∷ t) h k e = let i = sooner_from_earlier w s t (omega arith) (omega arith) e in grind arith

value-snoc : (w : ℕ) (s : List Bool) (b : Bool) → length s < w → value w (s ++ b ∷ []) ≡ value w s + bit b * 2 ^ (w - suc (length s))
unfolding value
value-snoc zero s b h = absurd (omega arith)
value-snoc (suc w) [] b h = let z = value-nil w in let e : suc w - 1 ≡ w = omega arith in rw e (omega arith)
value-snoc (suc w) (a ∷ s) b h =
    let i = value-snoc w s b (omega arith) in
    let e : suc w - suc (suc (length s)) ≡ w - suc (length s) = omega arith in
    rw e (omega arith)

bit_of : (n : ℕ) → n < 2 → bit (n == 1) ≡ n
unfolding bit
bit_of zero h = refl
bit_of (suc zero) h = refl
bit_of (suc (suc n)) h = absurd (omega arith)

join : (q P v b : ℕ) → v ≡ q / 2 * (P * 2) → b ≡ q % 2 → v + b * P ≡ q * P
join q P v b h k =
    let halves : q / 2 * 2 + q % 2 ≡ q = omega arith in
    let out : q / 2 * (P * 2) + q % 2 * P ≡ (q / 2 * 2 + q % 2) * P = omega arith in
    ap (λ n. n + b * P) h ∙ ap (λ n. q / 2 * (P * 2) + n * P) k ∙ out ∙ ap (λ n. n * P) halves

value-digits : (w p q : ℕ) → p ≤ w → q < 2 ^ p → value w (digits p q) ≡ q * 2 ^ (w - p)
value-digits w zero q h k = let z = value-nil w in let e : q ≡ 0 = omega arith in z ∙ sym (ap (λ n. n * 2 ^ (w - 0)) e ∙ zero-mul (2 ^ (w - 0)))
value-digits w (suc p) q h k =
    let f = pow-suc 2 p in
    let half : q / 2 < 2 ^ p = omega arith in
    let i = value-digits w p (q / 2) (omega arith) half in
    let l = length-digits p (q / 2) in
    let s = value-snoc w (digits p (q / 2)) (q % 2 == 1) (omega arith) in
    let e : w - p ≡ suc (w - suc p) = omega arith in
    let twice : 2 ^ (w - p) ≡ 2 ^ (w - suc p) * 2 = ap (λ n. 2 ^ n) e ∙ pow-suc 2 (w - suc p) in
    s ∙ ap (λ n. value w (digits p (q / 2)) + bit (q % 2 == 1) * 2 ^ (w - suc n)) l
    ∙ join q (2 ^ (w - suc p)) (value w (digits p (q / 2))) (bit (q % 2 == 1)) (i ∙ ap (λ n. q / 2 * n) twice) (bit_of (q % 2) (omega arith))

pub order_of_strings : (a b : Block) → IsBlock a → IsBlock b → a.family ≡ b.family → IsBefore a b ↔ (bits_cmp (bit_string a) (bit_string b) ≡ Less)
order_of_strings a b p q f = (forward, back)
  where
    va : value (width b.family) (bit_string a) ≡ first a
    va = value-digits (width b.family) a.len a.quotient (subst (λ g. a.len ≤ width g) f p.in_width) p.in_range ∙ ap (λ g. a.quotient * 2 ^ (width g - a.len)) (sym f)

    vb : value (width b.family) (bit_string b) ≡ first b
    vb = value-digits (width b.family) b.len b.quotient q.in_width q.in_range

    la : length (bit_string a) ≡ a.len
    la = length-digits a.len a.quotient

    lb : length (bit_string b) ≡ b.len
    lb = length-digits b.len b.quotient

    fa : length (bit_string a) ≤ width b.family
    fa = let h = la in let k : a.len ≤ width b.family = subst (λ g. a.len ≤ width g) f p.in_width in omega arith

    fb : length (bit_string b) ≤ width b.family
    fb = let h = lb in let k = q.in_width in omega arith

    forward : IsBefore a b → bits_cmp (bit_string a) (bit_string b) ≡ Less
    forward h =
        let x = va in let y = vb in let k = la in let l = lb in let g = ap rank f in
        earlier_from_sooner (width b.family) (bit_string a) (bit_string b) fa fb (grind arith)

    back : bits_cmp (bit_string a) (bit_string b) ≡ Less → IsBefore a b
    back e =
        let x = va in let y = vb in let k = la in let l = lb in let g = ap rank f in
        let s = sooner_from_earlier (width b.family) (bit_string a) (bit_string b) fa fb e in
        grind arith
