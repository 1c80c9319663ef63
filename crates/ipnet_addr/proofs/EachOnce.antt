-- Whatever calls are made of a range, they give no number twice.
use Rattle.std.proofs.Common.{◌≡◌, ◌≢◌, ℕ, ◌+◌, ◌-◌, ◌≤◌, inl, inr, refl, sym, ◌∙◌, subst, arith, List, [], ◌∷◌, reverse, Option, Some, None, slice_get, AllPairs, All}
use Rattle.std.specs.List.{cons_option}
use Rattle.std.proofs.lemmas.Bool.{cases_lt, cases_eq}
use Rattle.std.proofs.lemmas.List.Elements.{All-cons}
use Rattle.std.proofs.lemmas.List.Kept.{AllPairs-cons}
use Rattle.std.proofs.lemmas.Option.{none-some}
use Rattle.ipnet_addr.specs.Ranges.{Ends, numbers, after_front, after_back, times}
use Rattle.ipnet_addr.specs.Laws.{GivesEachOnce}
use Rattle.ipnet_addr.specs.Calls.{Call, Next, NextBack, Nth, NthBack, answer_of, ends_after, given}
use Rattle.ipnet_addr.proofs.RangeEnds.{ends, once, fronts_none, fronts_all, fronts_some, backs_none, backs_all, backs_some, front_at, front_past, back_at, back_past}
use Rattle.ipnet_addr.proofs.RangeCalls.{some_answer}

-- the number lies between the ends
abbrev Within : Ends → ℕ → Type 0
Within e n = (e.start ≤ n) × (n ≤ e.end)

-- a call takes a number from between the ends, and leaves others of them
record Takes (e f : Ends) (r : Option ℕ) : Type 0 where
  took : (n : ℕ) → r ≡ Some n → Within e n × (Within f n → ⊥)
  left : (n : ℕ) → Within f n → Within e n

took_last : (e f : Ends) (r : Option ℕ) → f ≡ ends 1 0 → ((n : ℕ) → r ≡ Some n → Within e n) → Takes e f r
took_last e f r q h = record {
  took = λ n g. (h n g, λ w. let v = subst (λ (d : Ends). Within d n) q w in omega arith);
  left = λ n w. absurd (let v = subst (λ (d : Ends). Within d n) q w in omega arith);
}

took_none : (e f : Ends) (r : Option ℕ) → f ≡ e → None ≡ r → Takes e f r
took_none e f r q h = record { took = λ n g. absurd (none-some n (h ∙ g)); left = λ n w. subst (λ (d : Ends). Within d n) q w }

module _ (s e n : ℕ) (f : Ends) (r : Option ℕ) where
  front_takes : r ≡ slice_get (numbers (ends s e)) n → f ≡ times (n + 1) after_front (ends s e) → Takes (ends s e) f r
  front_takes a h = elim (cases_lt e s) [
    | inl lt ↦ took_none (ends s e) f r (h ∙ fronts_none n s e lt) (front_past s e n (omega arith) ∙ sym a)
    | inr le ↦ elim (cases_lt n (e - s)) [
      | inl lt ↦
          let q = h ∙ fronts_some n s e lt in
          let at = front_at s e n (s + n) le (omega arith) refl in
          record {
            took = λ k g. let is = some_answer (s + n) k _ at (sym g ∙ a) in ((omega arith, omega arith), λ w. let v = subst (λ (d : Ends). Within d k) q w in omega arith);
            left = λ k w. let v = subst (λ (d : Ends). Within d k) q w in (omega arith, omega arith);
          }
      | inr ge ↦ took_last (ends s e) f r (h ∙ fronts_all n s e le ge) (λ k g. elim (cases_eq n (e - s)) [
        | inl same ↦ let is = some_answer e k _ (front_at s e n e le (omega arith) (omega arith)) (sym g ∙ a) in (omega arith, omega arith)
        | inr other ↦ absurd (none-some k (front_past s e n (omega arith) ∙ sym a ∙ g))
      ])
    ]
  ]

  back_takes : r ≡ slice_get (reverse (numbers (ends s e))) n → f ≡ times (n + 1) after_back (ends s e) → Takes (ends s e) f r
  back_takes a h = elim (cases_lt e s) [
    | inl lt ↦ took_none (ends s e) f r (h ∙ backs_none n s e lt) (back_past s e n (omega arith) ∙ sym a)
    | inr le ↦ elim (cases_lt n (e - s)) [
      | inl lt ↦
          let q = h ∙ backs_some n s e lt in
          let at = back_at s e n (e - n) le (omega arith) (omega arith) in
          record {
            took = λ k g. let is = some_answer (e - n) k _ at (sym g ∙ a) in ((omega arith, omega arith), λ w. let v = subst (λ (d : Ends). Within d k) q w in omega arith);
            left = λ k w. let v = subst (λ (d : Ends). Within d k) q w in (omega arith, omega arith);
          }
      | inr ge ↦ took_last (ends s e) f r (h ∙ backs_all n s e le ge) (λ k g. elim (cases_eq n (e - s)) [
        | inl same ↦ let is = some_answer s k _ (back_at s e n s le (omega arith) (omega arith)) (sym g ∙ a) in (omega arith, omega arith)
        | inr other ↦ absurd (none-some k (back_past s e n (omega arith) ∙ sym a ∙ g))
      ])
    ]
  ]

takes : (c : Call) (e : Ends) → Takes e (ends_after c e) (answer_of c e)
takes Next e = front_takes e.start e.end 0 (after_front e) _ refl (sym (once after_front e (after_front e) refl))
takes NextBack e = back_takes e.start e.end 0 (after_back e) _ refl (sym (once after_back e (after_back e) refl))
takes (Nth n) e = front_takes e.start e.end n _ _ refl refl
takes (NthBack n) e = back_takes e.start e.end n _ _ refl refl

all_given : (P : ℕ → Type 0) (r : Option ℕ) (xs : List ℕ) → ((n : ℕ) → r ≡ Some n → P n) → All P xs → All P (cons_option r xs)
all_given P None xs h g = g
all_given P (Some n) xs h g = All-cons P n xs (h n refl) g

pairs_given : (R : ℕ → ℕ → Type 0) (r : Option ℕ) (xs : List ℕ) → ((n : ℕ) → r ≡ Some n → All (R n) xs) → AllPairs R xs → AllPairs R (cons_option r xs)
pairs_given R None xs h g = g
pairs_given R (Some n) xs h g = AllPairs-cons R n xs (h n refl) g

given_within : (cs : List Call) (e : Ends) → All (Within e) (given cs e)
given_within [] e = λ k d lt. absurd (omega arith)
given_within (c ∷ cs) e =
    let t = takes c e in
    let rest = given_within cs (ends_after c e) in
    all_given (Within e) (answer_of c e) _ (λ n g. (t.took n g).0) (λ k d lt. t.left _ (rest k d lt))

pub gives_each_once : GivesEachOnce
gives_each_once [] e = λ i j d l m. absurd (omega arith)
gives_each_once (c ∷ cs) e =
    let t = takes c e in
    let rest = given_within cs (ends_after c e) in
    pairs_given (λ m n. m ≢ n) (answer_of c e) _
    (λ n g k d lt q. (t.took n g).1 (subst (Within (ends_after c e)) (sym q) (rest k d lt)))
    (gives_each_once cs (ends_after c e))
