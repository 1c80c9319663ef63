-- Prefixes and first words of lists.
use Rattle.std.proofs.Common.{◌≡◌, ◌≢◌, ℕ, zero, suc, ◌<◌, List, [], ◌∷◌, ◌++◌, length, get_or, drop, All, Option, Some, None, codes, refl, sym, ap, ◌∙◌, arith, append_assoc, subst, decimal, ◌^◌}
use Rattle.std.proofs.lemmas.List.Elements.{All-head, All-tail}
use Rattle.std.proofs.lemmas.List.{append_cancel_left}
use Rattle.std.proofs.Common.{Result, Ok, Err}
use Rattle.std.proofs.lemmas.Fmt.{parse-decimal, first_decimal, decimal_digit, decimal-digits_value}
use Rattle.std.proofs.lemmas.Str.Parse.{numerals_by_value, tells_digits, without_leading_plus_none}
use Rattle.std.proofs.lemmas.Result.{OkIff-at_ok}
use Rattle.std.specs.Str.Parse.{ParsesUnsigned, AllDigits, IsNumeral, digits_value, without_leading_plus}
use Rattle.route_lines.specs.Phrase.{IsUnspaced, IsDecimal, Then, After}
use Rattle.route_lines.specs.InnerPhrase.{Gives, IsFree}

-- two words before a space are one
pub same_word : (a b x y : List ℕ) → All (λ c. c ≢ 32) a → All (λ c. c ≢ 32) b → a ++ 32 ∷ x ≡ b ++ 32 ∷ y → (a ≡ b) × (x ≡ y)
same_word [] [] x y h k e = (refl, ap (drop 1) e)
same_word [] (d ∷ b) x y h k e = absurd (All-head (λ c. c ≢ 32) d b k (sym (ap (λ t. get_or t 0 0) e)))
same_word (c ∷ a) [] x y h k e = absurd (All-head (λ c. c ≢ 32) c a h (ap (λ t. get_or t 0 0) e))
same_word (c ∷ a) (d ∷ b) x y h k e =
    let head : c ≡ d = ap (λ t. get_or t 0 0) e in
    let tail = same_word a b x y (All-tail (λ c. c ≢ 32) c a h) (All-tail (λ c. c ≢ 32) d b k) (ap (drop 1) e) in
    (rw (head, tail.0) refl, tail.1)

-- no text without a space has one
pub no_split : (s a x : List ℕ) → All (λ c. c ≢ 32) s → s ≢ a ++ 32 ∷ x
no_split [] [] x h e = omega (arith, ap length e)
no_split [] (c ∷ a) x h e = omega (arith, ap length e)
no_split (d ∷ s) [] x h e = All-head (λ c. c ≢ 32) d s h (ap (λ t. get_or t 0 0) e)
no_split (d ∷ s) (c ∷ a) x h e = no_split s a x (All-tail (λ c. c ≢ 32) d s h) (ap (drop 1) e)

-- `++` groups to the left
pub split_at : (front back : List ℕ) → front ++ codes " " ++ back ≡ front ++ 32 ∷ back
split_at front back = append_assoc front (32 ∷ []) back

-- a text without a space is not two words
pub not_two : {A B : Type 0} {P : List ℕ → A → Type 0} {Q : List ℕ → B → Type 0} (s : List ℕ) (x : A × B) → IsUnspaced s → ¬ (Then P Q s x)
not_two s x free h = no_split s h.front h.back free (h.spelled ∙ split_at h.front h.back)

words_are : {A B : Type 0} {P : List ℕ → A → Type 0} {Q : List ℕ → B → Type 0} (s front back : List ℕ) (x : A × B) → IsFree P → s ≡ front ++ 32 ∷ back → IsUnspaced front → (h : Then P Q s x) → (h.front ≡ front) × (h.back ≡ back)
words_are s front back x words e free h = same_word h.front front h.back back (words h.front x.0 h.first) free (sym (h.spelled ∙ split_at h.front h.back) ∙ e)

pub no_first : {A B : Type 0} {P : List ℕ → A → Type 0} {Q : List ℕ → B → Type 0} (s front back : List ℕ) (x : A × B) → IsFree P → s ≡ front ++ 32 ∷ back → IsUnspaced front → ((a : A) → ¬ (P front a)) → ¬ (Then P Q s x)
no_first {A} {B} {P} {Q} s front back x words e free none h = none x.0 (subst (λ t. P t x.0) (words_are s front back x words e free h).0 h.first)

pub no_second : {A B : Type 0} {P : List ℕ → A → Type 0} {Q : List ℕ → B → Type 0} (s front back : List ℕ) (x : A × B) → IsFree P → s ≡ front ++ 32 ∷ back → IsUnspaced front → ((b : B) → ¬ (Q back b)) → ¬ (Then P Q s x)
no_second {A} {B} {P} {Q} s front back x words e free none h = none x.1 (subst (λ t. Q t x.1) (words_are s front back x words e free h).1 h.second)

pub both : {A B : Type 0} {P : List ℕ → A → Type 0} {Q : List ℕ → B → Type 0} (s front back : List ℕ) (a : A) (b : B) → s ≡ front ++ 32 ∷ back → P front a → Q back b → Then P Q s (a, b)
both s front back a b e h k = record { front = front; back = back; spelled = e ∙ sym (split_at front back); first = h; second = k }

pub phrase_after : {A : Type 0} {P : List ℕ → A → Type 0} (line prefix rest : List ℕ) (x : A) → line ≡ prefix ++ rest → P rest x → After prefix P line x
phrase_after line prefix rest x e h = record { rest = rest; spelled = e; phrase = h }

pub no_phrase : {A : Type 0} {P : List ℕ → A → Type 0} (line prefix rest : List ℕ) (x : A) → line ≡ prefix ++ rest → ((a : A) → ¬ (P rest a)) → ¬ (After prefix P line x)
no_phrase {A} {P} line prefix rest x e none h = none x (subst (λ t. P t x) (append_cancel_left prefix h.rest rest (sym h.spelled ∙ e)) h.phrase)

pub gives_after : {A : Type 0} (P : List ℕ → A → Type 0) (line prefix rest : List ℕ) (r : Option A) → line ≡ prefix ++ rest → Gives P rest r → Gives (After prefix P) line r
gives_after P line prefix rest None e h = λ x. no_phrase line prefix rest x e h
gives_after P line prefix rest (Some x) e h = phrase_after line prefix rest x e h

-- ---- numbers

-- a decimal text begins with no plus, and with a zero only where it is one
pub first_of_decimal : (n : ℕ) → n < 2 ^ 64 → (get_or (decimal n) 0 0 ≢ 43) × (get_or (decimal n) 0 0 ≡ 48 → length (decimal n) ≡ 1)
first_of_decimal zero h = rw (decimal_digit 0 (omega arith)) (λ e. omega (arith, e), λ e. refl)
first_of_decimal (suc n) h = let f = first_decimal (suc n) (omega arith) h in (λ e. omega (arith, e, f), λ e. absurd (omega (arith, e, f)))

-- a number whose text begins so is the one that was parsed
pub is_parsed : {E : Type 0} (m : ℕ) (s : List ℕ) (r : Result ℕ E) → get_or s 0 0 ≢ 43 → (get_or s 0 0 ≡ 48 → length s ≡ 1) → ParsesUnsigned 64 10 s r → r ≡ Ok m → s ≡ decimal m
is_parsed m s r no_plus no_zeros p e =
    let plain : without_leading_plus s ≡ s = without_leading_plus_none s no_plus in
    let q = OkIff-at_ok r _ _ m p e in
    let q2 : (IsNumeral 10 s × (digits_value 10 s < 2 ^ 64)) × (m ≡ digits_value 10 s) = subst (λ t. (IsNumeral 10 t × (digits_value 10 t < 2 ^ 64)) × (m ≡ digits_value 10 t)) plain q in
    sym (decimal-digits_value (numerals_by_value (AllDigits 10) tells_digits) s q2.0.0.1 q2.0.0.0 no_zeros q2.0.1) ∙ ap decimal (sym q2.1)

pub not_parsed : {E : Type 0} (low high n : ℕ) (s : List ℕ) (e : E) → high < 2 ^ 64 → ParsesUnsigned 64 10 s (Err e) → ¬ (IsDecimal low high s n)
not_parsed low high n s e bound p h = (let q = parse-decimal 64 n s (Err e) (omega (arith, h.2)) (omega (arith, h.2)) h.0 p in cc)

-- the number that was parsed is the one of the text
pub parsed : {E : Type 0} (low high n m : ℕ) (s : List ℕ) (r : Result ℕ E) → high < 2 ^ 64 → ParsesUnsigned 64 10 s r → r ≡ Ok m → IsDecimal low high s n → m ≡ n
parsed {E} low high n m s r bound p e h = (let q = parse-decimal 64 n s r (omega (arith, h.2)) (omega (arith, h.2)) h.0 p in let f = sym e ∙ q in cc)
