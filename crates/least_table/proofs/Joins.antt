-- Plans are joined and made wider: their steps, and those that are appended.
use Rattle.std.proofs.Common.{◌≡◌, ℕ, suc, ◌-◌, Bool, true, false, not, List, [], ◌∷◌, ◌++◌, length, Option, refl, sym, ap, ◌∙◌, arith, append_assoc, append-nil, length-append, subst}
use Rattle.least_table.specs.BestHops.{Of, AreMerged}
use Rattle.least_table.specs.InnerPacked.{Grows, best_at, stored_step, steps_in}
use Rattle.least_table.specs.InnerPlans.{EndsWithPlan, IsHeld, OfHalf, JoinsHalves}
use Rattle.least_table.specs.InnerRising.{IsRising}
use Rattle.least_table.specs.InnerSteps.{Step, Around, Halves, IsLonger, cut_on, step_best, steps_of, top}
use Rattle.least_table.specs.InnerTrees.{LeastPlan, Leaf, Fork, Skip, AllHave, OneOutside, plan_best}
use Rattle.least_table.specs.Tables.{half_of}
use Rattle.least_table.specs.declared.plan.LowerPlan.TheVariants as lower
use Rattle.least_table.specs.declared.plan.Packed.{Packed}
use Rattle.least_table.specs.declared.plan.Steps.{Steps}
use Rattle.least_table.proofs.Steps.{below, last_taken, left_of, popped, read_top, top_last}

skip_plan : (p : LeastPlan) (way : List Bool) (k : Option ℕ) (hops : List (Option ℕ)) → Around way k hops ≡ top p → (b : Bool) × (ds : List Bool) × (t : LeastPlan) × (p ≡ Skip k hops b ds t) × (way ≡ b ∷ ds)
skip_plan (Skip j ks b ds t) way k hops e = (b, ds, t, cc, cc)
skip_plan (Leaf j) way k hops e = cc
skip_plan (Fork ks l r) way k hops e = cc

-- the addresses outside a smaller block, by those in its half and those in the other half
outside : (upper : Bool) (ds : List Bool) (v : ℕ) (h : List Bool → Option ℕ) (k : Option ℕ) → OneOutside v (half_of upper h) ds k → AllHave v (half_of (not upper) h) k → OneOutside (suc v) h (upper ∷ ds) k
outside upper ds v h k inner other [] l f = absurd (omega (arith, l))
outside true ds v h k inner other (true ∷ x) l f = inner x (omega (arith, l)) f
outside false ds v h k inner other (false ∷ x) l f = inner x (omega (arith, l)) f
outside upper ds v h k inner other (_ ∷ x) l f = other x (omega (arith, l))

-- a step is appended
ends_grown : (xs : List Step) (r : LeastPlan) (old new : Steps) → steps_in old ≡ xs ++ below r → Grows old new (top r ∷ []) → IsRising (plan_best r) → EndsWithPlan xs r new
ends_grown xs r old new e grows rising = record { steps = grind (arith, grows.steps, e, top_last r, append_assoc xs (below r) (top r ∷ [])); whole = grows.whole; rising = rising }

module _ (xs : List Step) (p : LeastPlan) (old new : Steps) (ends : EndsWithPlan xs p old) (rest : List Packed) (y : Packed) (e : old.steps ≡ rest ++ y ∷ []) where
  last : (steps_in (left_of old rest) ≡ xs ++ below p) × (stored_step old.sets y ≡ top p)
  last = last_taken xs old (left_of old rest) (stored_step old.sets y) p (popped old rest y e) ends.steps

  pub last_best : step_best (stored_step old.sets y) ≡ plan_best p
  last_best = ap step_best last.1 ∙ (top_last p).1

  module _ (upper : Bool) (k : Option ℕ) where
    -- the other half has one hop
    pub lone_ends : (hops : List (Option ℕ)) → AreMerged (Of (k ∷ [])) (Of (step_best (stored_step old.sets y))) (Of hops) → IsRising hops → Grows old new (Around (upper ∷ []) k hops ∷ []) → (r : LeastPlan) × OfHalf upper k p r × EndsWithPlan xs r new
    lone_ends hops merged rising grows = (
      Skip k hops upper [] p,
      (λ v h i one. (v, omega arith, rw last_best at merged, outside upper [] v h k (λ x l f. cc) one, i)),
      ends_grown xs (Skip k hops upper [] p) old new ends.steps grows rising,
    )

    -- this half is cut into a smaller block past the same hop
    pub longer_ends : (turns : List Bool) (x : Step) → IsLonger upper k (stored_step old.sets y) turns → x ≡ cut_on turns k (k ∷ []) → Grows (left_of old rest) new (x ∷ []) → (r : LeastPlan) × OfHalf upper k p r × EndsWithPlan xs r new
    longer_ends turns x l is grows =
        let t = skip_plan p l.0 k l.1 (sym l.2 ∙ last.1) in
        let r = Skip k (k ∷ []) upper (t.0 ∷ t.1) t.2 in (
          r,
          subst (λ q. OfHalf upper k q r) (sym t.3) (λ v h i one. (i.0, omega (arith, i.1), refl, outside upper (t.0 ∷ t.1) v h k i.3 one, i.4)),
          ends_grown xs r (left_of old rest) new (rw t.3 at last.0) (rw (is, l.3, t.4) at grows) (tt, tt),
        )

-- both halves are planned
pub fork_ends : (at : ℕ) (xs ys : List Step) (p q : LeastPlan) (old new : Steps) (hops : List (Option ℕ)) → IsHeld (lower.At at) p xs ys → EndsWithPlan ys q old → AreMerged (Of (best_at old at)) (Of (best_at old (length (steps_in old) - 1))) (Of hops) → IsRising hops
    → Grows old new (Halves hops ∷ []) → (r : LeastPlan) × JoinsHalves p q r × EndsWithPlan xs r new
fork_ends at xs ys p q old new hops held ends merged rising grows =
    let low : best_at old at ≡ plan_best p = read_top p xs (steps_of q) old at (ends.steps ∙ rw held.0 refl) (rw (← held.0) held.1) in
    let high : best_at old (length (steps_in old) - 1) ≡ plan_best q = best_last ys q old ends in (
      Fork hops p q,
      (λ v h l r. (v, refl, rw (low, high) at merged, l, r)),
      ends_grown xs (Fork hops p q) old new (grind (arith, ends.steps, held.0, append_assoc xs (steps_of p) (steps_of q))) grows rising,
    )
  where
    best_last : (xs : List Step) (p : LeastPlan) (s : Steps) → EndsWithPlan xs p s → best_at s (length (steps_in s) - 1) ≡ plan_best p
    best_last xs p s h = read_top p xs [] s (length (steps_in s) - 1) (h.steps ∙ sym (append-nil (xs ++ steps_of p))) (omega (arith, ap length h.steps, length-append xs (steps_of p), ap length (top_last p).0, length-append (below p) (top p ∷ [])))
