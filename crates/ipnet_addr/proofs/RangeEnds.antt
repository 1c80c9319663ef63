-- The numbers of a range, and the ends that its calls leave.
use Rattle.std.proofs.Common.{◌≡◌, ℕ, zero, suc, ◌+◌, ◌-◌, ◌<◌, ◌≤◌, inl, inr, sym, ◌∙◌, ap, arith, add-one, length, get_or, reverse, Some, None, nat_lt, ◌==◌, slice_get}
use Rattle.std.proofs.lemmas.Bool.{cases_eq, lt-ltb, le-ltb, eq-eqb, ne_eqb, cond-true, cond-false}
use Rattle.std.proofs.lemmas.List.FromFn.{length-range_with_len, get_or-range_with_len}
use Rattle.std.proofs.lemmas.Option.{slice_get-get_or, slice_get_past}
use Rattle.std.proofs.lemmas.List.{length-reverse, get_or-reverse}
use Rattle.ipnet_addr.specs.Ranges.{Ends, numbers, after_front, after_back, times}

abbrev pub ends : ℕ → ℕ → Ends
ends s e = record { start = s; end = e }

module _ (s e : ℕ) where
  front_none : e < s → after_front (ends s e) ≡ ends s e
  unfolding after_front
  front_none lt = cond-true (nat_lt e s) _ _ (lt-ltb e s lt)

  front_last : s ≡ e → after_front (ends s e) ≡ ends 1 0
  unfolding after_front
  front_last q = cond-false (nat_lt e s) _ _ (le-ltb e s (omega arith)) ∙ cond-true (s == e) _ _ (eq-eqb s e q)

  front_more : s < e → after_front (ends s e) ≡ ends (s + 1) e
  unfolding after_front
  front_more lt = cond-false (nat_lt e s) _ _ (le-ltb e s (omega arith)) ∙ cond-false (s == e) _ _ (ne_eqb s e (λ q. absurd (omega arith)))

  back_none : e < s → after_back (ends s e) ≡ ends s e
  unfolding after_back
  back_none lt = cond-true (nat_lt e s) _ _ (lt-ltb e s lt)

  back_last : s ≡ e → after_back (ends s e) ≡ ends 1 0
  unfolding after_back
  back_last q = cond-false (nat_lt e s) _ _ (le-ltb e s (omega arith)) ∙ cond-true (s == e) _ _ (eq-eqb s e q)

  back_more : s < e → after_back (ends s e) ≡ ends s (e - 1)
  unfolding after_back
  back_more lt = cond-false (nat_lt e s) _ _ (le-ltb e s (omega arith)) ∙ cond-false (s == e) _ _ (ne_eqb s e (λ q. absurd (omega arith)))

module _ {A : Type 0} (f : A → A) where
  step : (n : ℕ) (x y z : A) → f x ≡ y → times (n + 1) f y ≡ z → times (suc n + 1) f x ≡ z
  unfolding times
  step n x y z q r = ap (λ m. times m f x) (add-one (suc n)) ∙ ap (times (suc n) f) q ∙ ap (λ m. times m f y) (sym (add-one n)) ∙ r

  pub once : (x y : A) → f x ≡ y → times (0 + 1) f x ≡ y
  unfolding times
  once x y q = q

  fixed : (n : ℕ) (x : A) → f x ≡ x → times (n + 1) f x ≡ x
  fixed zero x q = once x x q
  fixed (suc n) x q = step n x x x q (fixed n x q)

-- n + 1 calls, where the range is empty, where they take all, and where some number is left
pub fronts_none : (n s e : ℕ) → e < s → times (n + 1) after_front (ends s e) ≡ ends s e
fronts_none n s e lt = fixed after_front n (ends s e) (front_none s e lt)

pub fronts_all : (n s e : ℕ) → s ≤ e → e - s ≤ n → times (n + 1) after_front (ends s e) ≡ ends 1 0
fronts_all zero s e le h = once after_front (ends s e) (ends 1 0) (front_last s e (omega arith))
fronts_all (suc n) s e le h = elim (cases_eq s e) [
  | inl q ↦ step after_front n (ends s e) (ends 1 0) (ends 1 0) (front_last s e q) (fronts_none n 1 0 (omega arith))
  | inr ne ↦ step after_front n (ends s e) (ends (s + 1) e) (ends 1 0) (front_more s e (omega arith)) (fronts_all n (s + 1) e (omega arith) (omega arith))
]

pub fronts_some : (n s e : ℕ) → n < e - s → times (n + 1) after_front (ends s e) ≡ ends (s + n + 1) e
fronts_some zero s e h = once after_front (ends s e) (ends (s + 0 + 1) e) (front_more s e (omega arith) ∙ (let q : s + 1 ≡ s + 0 + 1 = omega arith in λ i. ends (q i) e))
fronts_some (suc n) s e h = step after_front n (ends s e) (ends (s + 1) e) (ends (s + suc n + 1) e) (front_more s e (omega arith)) (fronts_some n (s + 1) e (omega arith) ∙ (let q : s + 1 + n + 1 ≡ s + suc n + 1 = omega arith in λ i. ends (q i) e))

pub backs_none : (n s e : ℕ) → e < s → times (n + 1) after_back (ends s e) ≡ ends s e
backs_none n s e lt = fixed after_back n (ends s e) (back_none s e lt)

pub backs_all : (n s e : ℕ) → s ≤ e → e - s ≤ n → times (n + 1) after_back (ends s e) ≡ ends 1 0
backs_all zero s e le h = once after_back (ends s e) (ends 1 0) (back_last s e (omega arith))
backs_all (suc n) s e le h = elim (cases_eq s e) [
  | inl q ↦ step after_back n (ends s e) (ends 1 0) (ends 1 0) (back_last s e q) (backs_none n 1 0 (omega arith))
  | inr ne ↦ step after_back n (ends s e) (ends s (e - 1)) (ends 1 0) (back_more s e (omega arith)) (backs_all n s (e - 1) (omega arith) (omega arith))
]

pub backs_some : (n s e : ℕ) → n < e - s → times (n + 1) after_back (ends s e) ≡ ends s (e - n - 1)
backs_some zero s e h = once after_back (ends s e) (ends s (e - 0 - 1)) (back_more s e (omega arith) ∙ (let q : e - 1 ≡ e - 0 - 1 = omega arith in λ i. ends s (q i)))
backs_some (suc n) s e h = step after_back n (ends s e) (ends s (e - 1)) (ends s (e - suc n - 1)) (back_more s e (omega arith)) (backs_some n s (e - 1) (omega arith) ∙ (let q : e - 1 - n - 1 ≡ e - suc n - 1 = omega arith in λ i. ends s (q i)))

pub count_is : (s e : ℕ) → length (numbers (ends s e)) ≡ e + 1 - s
count_is s e = length-range_with_len s (e + 1 - s)

-- the number at n from either end
pub front_at : (s e n x : ℕ) → s ≤ e → n ≤ e - s → x ≡ s + n → Some x ≡ slice_get (numbers (ends s e)) n
front_at s e n x le h is =
    let c = count_is s e in
    ap (λ y. Some y) (is ∙ sym (get_or-range_with_len s (e + 1 - s) n 0 (omega arith))) ∙ sym (slice_get-get_or (numbers (ends s e)) n 0 (omega arith))

pub back_at : (s e n x : ℕ) → s ≤ e → n ≤ e - s → x + n ≡ e → Some x ≡ slice_get (reverse (numbers (ends s e))) n
back_at s e n x le h is =
    let xs = numbers (ends s e) in
    let c = count_is s e in
    let r = length-reverse xs in
    let g : get_or (reverse xs) n 0 ≡ x = get_or-reverse xs n 0 (omega arith) ∙ get_or-range_with_len s (e + 1 - s) (length xs - 1 - n) 0 (omega arith) ∙ omega arith in
    ap (λ y. Some y) (sym g) ∙ sym (slice_get-get_or (reverse xs) n 0 (omega arith))

pub front_past : (s e n : ℕ) → e + 1 - s ≤ n → None ≡ slice_get (numbers (ends s e)) n
front_past s e n h = sym (slice_get_past (numbers (ends s e)) n (omega (arith, count_is s e)))

pub back_past : (s e n : ℕ) → e + 1 - s ≤ n → None ≡ slice_get (reverse (numbers (ends s e))) n
back_past s e n h = sym (slice_get_past (reverse (numbers (ends s e))) n (omega (arith, count_is s e, length-reverse (numbers (ends s e)))))
