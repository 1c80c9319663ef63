-- The bit string of a block, and inclusion.
use Rattle.std.proofs.Common.{◌≡◌, ℕ, zero, suc, ◌+◌, ◌-◌, ◌*◌, ◌/◌, ◌%◌, ◌^◌, ◌<◌, ◌≤◌, Bool, true, ◌==◌, List, [], ◌∷◌, ◌++◌, length, drop, refl, sym, ap, ◌∙◌, subst, arith, append_assoc, length-append, append-nil, shr-shr, shr_lt, div-one, add-zero, add-suc, one-add, pow-suc}
use Rattle.std.proofs.lemmas.Bool.Decides.{nat_tests}
use Rattle.ipnet_blocks.specs.Blocks.{Block, IsBlock, IsInside, digits, bit_string}
use Rattle.ipnet_blocks.specs.BitStrings.{begins}
use Rattle.ipnet_blocks.proofs.BitStrings.{begins_on, begun_rest}
use Rattle.ipnet_blocks.proofs.BlockLaws.{numbers_from_inside, inside_from_numbers}

pub length-digits : (p q : ℕ) → length (digits p q) ≡ p
length-digits zero q = refl
length-digits (suc p) q = simp length-append (let h = length-digits p (q / 2) in omega arith)

-- two lists that end in one element each
snoc_parts : {A : Type 0} (xs ys : List A) (x y : A) → xs ++ x ∷ [] ≡ ys ++ y ∷ [] → length xs ≡ length ys → (xs ≡ ys) × (x ≡ y)
snoc_parts [] [] x y e l = (refl, cc)
snoc_parts [] (b ∷ ys) x y e l = absurd (omega arith)
snoc_parts (a ∷ xs) [] x y e l = absurd (omega arith)
snoc_parts (a ∷ xs) (b ∷ ys) x y e l =
    let t : xs ++ x ∷ [] ≡ ys ++ y ∷ [] = cc in
    let h : a ≡ b = cc in
    let r = snoc_parts xs ys x y t (omega arith) in
    (cc, r.1)

append_parts : {A : Type 0} (xs ys zs ws : List A) → xs ++ zs ≡ ys ++ ws → length xs ≡ length ys → xs ≡ ys
append_parts [] [] zs ws e l = refl
append_parts [] (b ∷ ys) zs ws e l = absurd (omega arith)
append_parts (a ∷ xs) [] zs ws e l = absurd (omega arith)
append_parts (a ∷ xs) (b ∷ ys) zs ws e l =
    let t : xs ++ zs ≡ ys ++ ws = cc in
    let h : a ≡ b = cc in
    let r = append_parts xs ys zs ws t (omega arith) in
    cc

-- a number is its digits
pub digits_apart : (p q r : ℕ) → q < 2 ^ p → r < 2 ^ p → digits p q ≡ digits p r → q ≡ r
digits_apart zero q r h k e = omega arith
digits_apart (suc p) q r h k e =
    let s = snoc_parts (digits p (q / 2)) (digits p (r / 2)) (q % 2 == 1) (r % 2 == 1) e (length-digits p (q / 2) ∙ sym (length-digits p (r / 2))) in
    let a : q / 2 < 2 ^ p = halves p q h in
    let b : r / 2 < 2 ^ p = halves p r k in
    let m = digits_apart p (q / 2) (r / 2) a b s.0 in
    whole q r m s.1
  where
    halves : (p q : ℕ) → q < 2 ^ suc p → q / 2 < 2 ^ p
    halves p q h = let e : 2 ^ suc p ≡ 2 ^ p * 2 = pow-suc 2 p in omega arith

    whole : (q r : ℕ) → q / 2 ≡ r / 2 → (q % 2 == 1) ≡ (r % 2 == 1) → q ≡ r
    whole q r m t = grind (arith, nat_tests)

-- the first digits are those of the quotient
pub digits_front : (p k q : ℕ) → (rest : List Bool) × (digits (p + k) q ≡ digits p (q / 2 ^ k) ++ rest)
digits_front p zero q = ([], simp (add-zero, append-nil, div-one))
digits_front p (suc k) q =
    let t = digits_front p k (q / 2) in
    let e : q / 2 / 2 ^ k ≡ q / 2 ^ suc k = shr-shr q 1 k ∙ ap (λ n. q / 2 ^ n) (one-add k) in
    let f : digits (p + k) (q / 2) ≡ digits p (q / 2 ^ suc k) ++ t.0 = subst (λ n. digits (p + k) (q / 2) ≡ digits p n ++ t.0) e t.1 in
    let last : List Bool = (q % 2 == 1) ∷ [] in
    (t.0 ++ last, ap (λ n. digits n q) (add-suc p k) ∙ ap (λ s. s ++ last) f ∙ append_assoc (digits p (q / 2 ^ suc k)) t.0 last)

front_from_inside : (a b : Block) → IsBlock a → IsBlock b → IsInside a b → (rest : List Bool) × (bit_string a ≡ bit_string b ++ rest)
front_from_inside a b p q h =
    let n = numbers_from_inside a b p q h in
    let t = digits_front b.len (a.len - b.len) a.quotient in
    let l : b.len + (a.len - b.len) ≡ a.len = let h = n.long in omega arith in
    (t.0, subst (λ m. digits m a.quotient ≡ digits b.len (a.quotient / 2 ^ (a.len - b.len)) ++ t.0) l t.1 ∙ ap (λ q. digits b.len q ++ t.0) n.quotient)

pub begins_from_inside : (a b : Block) → IsBlock a → IsBlock b → IsInside a b → begins (bit_string b) (bit_string a) ≡ true
begins_from_inside a b p q h = let t = front_from_inside a b p q h in ap (begins (bit_string b)) t.1 ∙ begins_on (bit_string b) t.0

pub inside_from_begins : (a b : Block) → IsBlock a → IsBlock b → a.family ≡ b.family → begins (bit_string b) (bit_string a) ≡ true → IsInside a b
inside_from_begins a b p q f h =
    let t : (rest : List Bool) × (bit_string a ≡ bit_string b ++ rest) = (drop (length (bit_string b)) (bit_string a), sym (begun_rest (bit_string b) (bit_string a) h)) in
    let k = a.len - b.len in
    let lens : length (digits a.len a.quotient) ≡ length (digits b.len b.quotient) + length t.0 = ap length t.1 ∙ length-append (digits b.len b.quotient) t.0 in
    let la = length-digits a.len a.quotient in
    let lb = length-digits b.len b.quotient in
    let long : b.len ≤ a.len = omega arith in
    let l : b.len + (a.len - b.len) ≡ a.len = omega arith in
    let r = digits_front b.len (a.len - b.len) a.quotient in
    let e : digits a.len a.quotient ≡ digits b.len (a.quotient / 2 ^ (a.len - b.len)) ++ r.0 = ap (λ m. digits m a.quotient) (sym l) ∙ r.1 in
    let same = append_parts (digits b.len (a.quotient / 2 ^ (a.len - b.len))) (digits b.len b.quotient) r.0 t.0 (sym e ∙ t.1) (length-digits b.len (a.quotient / 2 ^ (a.len - b.len)) ∙ sym lb) in
    inside_from_numbers a b p f long (digits_apart b.len (a.quotient / 2 ^ (a.len - b.len)) b.quotient (shr_lt b.len (a.len - b.len) (subst (λ n. a.quotient < 2 ^ n) (sym l) p.in_range)) q.in_range same)
