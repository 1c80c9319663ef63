-- What calls of a range give, in the words of iterators.
use Rattle.std.proofs.Common.{◌≡◌, ℕ, zero, suc, ◌+◌, ◌-◌, ◌<◌, ◌≤◌, ◌⊎◌, inl, inr, refl, sym, ◌∙◌, ap, subst, arith, [], ◌∷◌, ◌++◌, reverse, Option, Some, None, option_map, slice_get, Contains, All}
use Rattle.std.specs.List.{range_with_len}
use Rattle.std.specs.Bool.{⊤}
use Rattle.std.specs.Iterator.{YieldsFirstBy, YieldsLastBy, item_count, MakesProgress}
use Rattle.std.proofs.lemmas.Bool.{cases_lt, cases_eq}
use Rattle.std.proofs.lemmas.List.FromFn.{get_or-range_with_len}
use Rattle.std.proofs.lemmas.Option.{none-some}
use Rattle.ipnet_addr.specs.Ranges.{Ends, numbers, after_front, after_back, times, IsMinimum, IsMaximum}
use Rattle.ipnet_addr.proofs.Progress.{progress_first, progress_last}
use Rattle.ipnet_addr.proofs.RangeEnds.{ends, once, fronts_none, fronts_all, fronts_some, backs_none, backs_all, backs_some, front_at, front_past, back_at, back_past, count_is}

none_left : (s e : ℕ) → e < s → numbers (ends s e) ≡ []
none_left s e lt = let q : e + 1 - s ≡ 0 = omega arith in ap (range_with_len s) q

first_left : (s e : ℕ) → s ≤ e → numbers (ends s e) ≡ s ∷ numbers (ends (s + 1) e)
first_left s e le = let q : e + 1 - s ≡ suc (e + 1 - (s + 1)) = omega arith in ap (range_with_len s) q

more_at_end : (s n : ℕ) → range_with_len s (suc n) ≡ range_with_len s n ++ (s + n) ∷ []
more_at_end s zero = let q : s ≡ s + 0 = omega arith in ap (λ x. x ∷ []) q
more_at_end s (suc n) = let q : (s + 1) + n ≡ s + suc n = omega arith in ap (λ xs. s ∷ xs) (more_at_end (s + 1) n ∙ ap (λ x. range_with_len (s + 1) n ++ x ∷ []) q)

last_left : (s e : ℕ) → s < e → numbers (ends s e) ≡ numbers (ends s (e - 1)) ++ e ∷ []
last_left s e lt =
    let q : e + 1 - s ≡ suc (e - s) = omega arith in
    let p : e - s ≡ (e - 1) + 1 - s = omega arith in
    let z : s + (e - s) ≡ e = omega arith in
    ap (range_with_len s) q ∙ more_at_end s (e - s) ∙ (λ i. range_with_len s (p i) ++ (z i) ∷ [])

-- after one call
front_is : (s e : ℕ) → (f : Ends) → f ≡ times (0 + 1) after_front (ends s e) → ((e < s) × (f ≡ ends s e)) ⊎ ((s ≤ e) × (numbers (ends s e) ≡ s ∷ numbers f))
front_is s e f h = elim (cases_lt e s) [
  | inl lt ↦ inl (lt, h ∙ fronts_none 0 s e lt)
  | inr le ↦ elim (cases_eq s e) [
    | inl q ↦ inr (le, first_left s e le ∙ ap (λ xs. s ∷ xs) (none_left (s + 1) e (omega arith) ∙ sym (ap numbers (h ∙ fronts_all 0 s e le (omega arith)))))
    | inr n ↦ inr (le, first_left s e le ∙ ap (λ xs. s ∷ xs) ((let p : s + 1 ≡ s + 0 + 1 = omega arith in λ i. numbers (ends (p i) e)) ∙ sym (ap numbers (h ∙ fronts_some 0 s e (omega arith)))))
  ]
]

back_is : (s e : ℕ) → (f : Ends) → f ≡ times (0 + 1) after_back (ends s e) → ((e < s) × (f ≡ ends s e)) ⊎ ((s ≤ e) × (numbers (ends s e) ≡ numbers f ++ e ∷ []))
back_is s e f h = elim (cases_lt e s) [
  | inl lt ↦ inl (lt, h ∙ backs_none 0 s e lt)
  | inr le ↦ elim (cases_eq s e) [
    | inl q ↦ inr (le, first_left s e le ∙ ap (λ xs. s ∷ xs) (none_left (s + 1) e (omega arith)) ∙ ap (λ x. x ∷ []) q ∙ ap (λ xs. xs ++ e ∷ []) (sym (ap numbers (h ∙ backs_all 0 s e le (omega arith)))))
    | inr n ↦ inr (le, last_left s e (omega arith) ∙ ap (λ xs. xs ++ e ∷ []) ((let p : e - 1 ≡ e - 0 - 1 = omega arith in λ i. numbers (ends s (p i))) ∙ sym (ap numbers (h ∙ backs_some 0 s e (omega arith)))))
  ]
]

no_answer : {A : Type 0} (view : A → ℕ) (a : A) → (y : Option ℕ) → Some (view a) ≡ y → None ≡ y → ⊥
no_answer view a y h g = none-some (view a) (g ∙ sym h)

pub some_answer : (a b : ℕ) (y : Option ℕ) → Some a ≡ y → Some b ≡ y → a ≡ b
some_answer a b y h g = let e = h ∙ sym g in cc

pub front_once : (e f : Ends) → f ≡ times (0 + 1) after_front e → f ≡ after_front e
front_once e f h = h ∙ once after_front e (after_front e) refl

pub back_once : (e f : Ends) → f ≡ times (0 + 1) after_back e → f ≡ after_back e
back_once e f h = h ∙ once after_back e (after_back e) refl

module _ {A : Type 0} (view : A → ℕ) where
  pub front_taken : (e f : Ends) (r : Option A) → option_map view r ≡ slice_get (numbers e) 0 → f ≡ times (0 + 1) after_front e → YieldsFirstBy view numbers e r f
  front_taken e f None a h = elim (front_is e.start e.end f h) [
    | inl w ↦ let none = none_left e.start e.end w.0 in (none, ap numbers w.1 ∙ none)
    | inr w ↦ absurd (none-some e.start (a ∙ sym (front_at e.start e.end 0 e.start w.0 (omega arith) (omega arith))))
  ]
  front_taken e f (Some x) a h = elim (front_is e.start e.end f h) [
    | inl w ↦ absurd (no_answer view x _ a (front_past e.start e.end 0 (let l = w.0 in omega arith)))
    | inr w ↦ w.1 ∙ ap (λ n. n ∷ numbers f) (some_answer e.start (view x) _ (front_at e.start e.end 0 e.start w.0 (omega arith) (omega arith)) a)
  ]

  pub back_taken : (e f : Ends) (r : Option A) → option_map view r ≡ slice_get (reverse (numbers e)) 0 → f ≡ times (0 + 1) after_back e → YieldsLastBy view numbers e r f
  back_taken e f None a h = elim (back_is e.start e.end f h) [
    | inl w ↦ let none = none_left e.start e.end w.0 in (none, ap numbers w.1 ∙ none)
    | inr w ↦ absurd (none-some e.end (a ∙ sym (back_at e.start e.end 0 e.end w.0 (omega arith) (omega arith))))
  ]
  back_taken e f (Some x) a h = elim (back_is e.start e.end f h) [
    | inl w ↦ absurd (no_answer view x _ a (back_past e.start e.end 0 (let l = w.0 in omega arith)))
    | inr w ↦ w.1 ∙ ap (λ n. numbers f ++ n ∷ []) (some_answer e.end (view x) _ (back_at e.start e.end 0 e.end w.0 (omega arith) (omega arith)) a)
  ]

  pub front_goes : (e f : Ends) (r : Option A) → option_map view r ≡ slice_get (numbers e) 0 → f ≡ times (0 + 1) after_front e → MakesProgress {S = Ends} {A = A} (λ _. ⊤) (item_count numbers) e r f
  front_goes e f r a h = progress_first view numbers e r f (front_taken e f r a h)

  pub back_goes : (e f : Ends) (r : Option A) → option_map view r ≡ slice_get (reverse (numbers e)) 0 → f ≡ times (0 + 1) after_back e → MakesProgress {S = Ends} {A = A} (λ _. ⊤) (item_count numbers) e r f
  back_goes e f r a h = progress_last view numbers e r f (back_taken e f r a h)

pub has_number : (s e k : ℕ) → s ≤ e → k ≤ e - s → Contains (numbers (ends s e)) (s + k)
has_number s e k le h = let c = count_is s e in (k, omega arith, get_or-range_with_len s (e + 1 - s) k (s + k) (omega arith))

all_numbers : (P : ℕ → Type 0) (s e : ℕ) → ((n : ℕ) → s ≤ n → n ≤ e → P n) → All P (numbers (ends s e))
all_numbers P s e h k d lt = let c = count_is s e in subst P (sym (get_or-range_with_len s (e + 1 - s) k d (omega arith))) (h (s + k) (omega arith) (omega arith))

pub least_is : (e : Ends) (r : Option ℕ) → r ≡ slice_get (numbers e) 0 → IsMinimum (numbers e) r
least_is e None h = elim (cases_lt e.end e.start) [
  | inl lt ↦ none_left e.start e.end lt
  | inr le ↦ absurd (none-some e.start (h ∙ sym (front_at e.start e.end 0 e.start le (omega arith) (omega arith))))
]
least_is e (Some n) h = elim (cases_lt e.end e.start) [
  | inl lt ↦ absurd (none-some n (front_past e.start e.end 0 (omega arith) ∙ sym h))
  | inr le ↦
      let is : e.start + 0 ≡ n = some_answer (e.start + 0) n _ (front_at e.start e.end 0 (e.start + 0) le (omega arith) refl) h in
      (subst (Contains (numbers e)) is (has_number e.start e.end 0 le (omega arith)), all_numbers (λ x. n ≤ x) e.start e.end (λ x l m. omega arith))
]

pub greatest_is : (e : Ends) (r : Option ℕ) → r ≡ slice_get (reverse (numbers e)) 0 → IsMaximum (numbers e) r
greatest_is e None h = elim (cases_lt e.end e.start) [
  | inl lt ↦ none_left e.start e.end lt
  | inr le ↦ absurd (none-some e.end (h ∙ sym (back_at e.start e.end 0 e.end le (omega arith) (omega arith))))
]
greatest_is e (Some n) h = elim (cases_lt e.end e.start) [
  | inl lt ↦ absurd (none-some n (back_past e.start e.end 0 (omega arith) ∙ sym h))
  | inr le ↦
      let is : e.start + (e.end - e.start) ≡ n = some_answer (e.start + (e.end - e.start)) n _ (back_at e.start e.end 0 (e.start + (e.end - e.start)) le (omega arith) (omega arith)) h in
      (subst (Contains (numbers e)) is (has_number e.start e.end (e.end - e.start) le (omega arith)), all_numbers (λ x. x ≤ n) e.start e.end (λ x l m. omega arith))
]
