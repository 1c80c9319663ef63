-- Bytes that are kept between two reads.
use Rattle.std.proofs.Common.{◌≡◌, ◌==◌, ℕ, ◌<◌, true, false, List, [], ◌∷◌, ◌++◌, length, take, drop, ◌+◌, ◌-◌, ◌≤◌, None, Some, refl, sym, ap, ◌∙◌, append_assoc, eqb-true, drop-drop, length-drop, length-take-le, Option, arith}
use Rattle.std.proofs.Math.Seq.{take-append_seam}
use Rattle.std.proofs.lemmas.Bool.Decides.{nat_tests}
use Rattle.std.specs.Io.KnownBytes.{Consumes, IsAtEnd, prepend_known}

pub at_end : (b : Option (List ℕ)) (after : List ℕ) → after ≡ [] → IsAtEnd b → IsAtEnd (prepend_known after b)
at_end b after e end = grind arith

-- of the bytes that were kept and those that the device gave, the first ones are handed out
pub handed : (a b : Option (List ℕ)) (before given front after : List ℕ) → before ++ given ≡ front ++ after
    → Consumes a b given → Consumes (prepend_known before a) (prepend_known after b) front
handed None b before given front after split read = tt
handed (Some xs) None before given front after split read = absurd read
handed (Some xs) (Some ys) before given front after split read =
    ap (λ l. before ++ l) read ∙ sym (append_assoc before given ys) ∙ ap (λ l. l ++ ys) split ∙ append_assoc front after ys

pub none_left : (l : List ℕ) → (length l == 0) ≡ true → l ≡ []
none_left [] e = refl
none_left (x ∷ l) e = absurd (omega (arith, eqb-true _ _ e))

pub some_left : (l : List ℕ) → (length l == 0) ≡ false → 0 < length l
some_left l e = grind (arith, nat_tests)

-- nothing is handed out only where there was nothing
pub nothing_kept : (n : ℕ) (given : List ℕ) → (0 < length given → 0 < n) → n ≡ 0 → (given ≡ []) × (drop n given ≡ [])
nothing_kept n [] some none = rw none (refl, refl)
nothing_kept n (x ∷ l) some none = let more : 0 < n = some (omega arith) in absurd (omega (arith, more, none))

-- n bytes of what is left after the first m are handed out
pub left_after : (m n : ℕ) (items left : List ℕ) → left ≡ drop m items → n ≤ length left → 0 < length left → drop (length items - (length left - n)) items ≡ drop n left
left_after m n items left e short some =
    let len = ap length e ∙ length-drop m items in
    ap (λ k. drop k items) {y = m + n} (omega (arith, len, short, some)) ∙ sym (drop-drop n m items) ∙ ap (drop n) (sym e)

-- a copy of the first n bytes stands first
pub copied : (n : ℕ) (bytes copy others : List ℕ) → copy ≡ take n bytes → n ≤ length bytes → take n (copy ++ others) ≡ take n bytes
copied n bytes copy others e short =
    let len : length copy ≡ n = ap length e ∙ length-take-le n bytes short in
    ap (λ k. take k (copy ++ others)) (sym len) ∙ take-append_seam copy others ∙ e
