-- After a call that answers nothing, every call answers nothing.
use Rattle.std.proofs.Common.{◌≡◌, ℕ, ◌+◌, ◌-◌, ◌<◌, inl, inr, refl, sym, ◌∙◌, subst, arith, reverse, None, slice_get}
use Rattle.std.proofs.lemmas.Bool.{cases_lt}
use Rattle.std.proofs.lemmas.Option.{none-some}
use Rattle.ipnet_addr.specs.Ranges.{Ends, numbers, after_front, after_back, times}
use Rattle.ipnet_addr.specs.Calls.{Call, Next, NextBack, Nth, NthBack, answer_of, ends_after}
use Rattle.ipnet_addr.specs.Laws.{StaysEmpty}
use Rattle.ipnet_addr.proofs.RangeEnds.{ends, once, fronts_none, fronts_all, backs_none, backs_all, front_at, front_past, back_at, back_past}

abbrev IsEmpty : Ends → Type 0
IsEmpty e = e.end < e.start

module _ (s e n : ℕ) (f : Ends) where
  front_empties : slice_get (numbers (ends s e)) n ≡ None → f ≡ times (n + 1) after_front (ends s e) → IsEmpty f
  front_empties a h = elim (cases_lt e s) [
    | inl lt ↦ subst IsEmpty (sym (h ∙ fronts_none n s e lt)) lt
    | inr le ↦ elim (cases_lt (e - s) n) [
      | inl lt ↦ subst IsEmpty (sym (h ∙ fronts_all n s e le (omega arith))) (omega arith)
      | inr ge ↦ absurd (none-some (s + n) (sym a ∙ sym (front_at s e n (s + n) le ge refl)))
    ]
  ]

  back_empties : slice_get (reverse (numbers (ends s e))) n ≡ None → f ≡ times (n + 1) after_back (ends s e) → IsEmpty f
  back_empties a h = elim (cases_lt e s) [
    | inl lt ↦ subst IsEmpty (sym (h ∙ backs_none n s e lt)) lt
    | inr le ↦ elim (cases_lt (e - s) n) [
      | inl lt ↦ subst IsEmpty (sym (h ∙ backs_all n s e le (omega arith))) (omega arith)
      | inr ge ↦ absurd (none-some (e - n) (sym a ∙ sym (back_at s e n (e - n) le ge (omega arith))))
    ]
  ]

empties : (c : Call) (e : Ends) → answer_of c e ≡ None → IsEmpty (ends_after c e)
empties Next e a = front_empties e.start e.end 0 (after_front e) a (sym (once after_front e (after_front e) refl))
empties NextBack e a = back_empties e.start e.end 0 (after_back e) a (sym (once after_back e (after_back e) refl))
empties (Nth n) e a = front_empties e.start e.end n _ a refl
empties (NthBack n) e a = back_empties e.start e.end n _ a refl

nothing : (d : Call) (e : Ends) → IsEmpty e → answer_of d e ≡ None
nothing Next e lt = sym (front_past e.start e.end 0 (omega arith))
nothing NextBack e lt = sym (back_past e.start e.end 0 (omega arith))
nothing (Nth n) e lt = sym (front_past e.start e.end n (omega arith))
nothing (NthBack n) e lt = sym (back_past e.start e.end n (omega arith))

pub stays_empty : StaysEmpty
stays_empty c d e a = nothing d (ends_after c e) (empties c e a)
