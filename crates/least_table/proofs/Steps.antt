-- Steps that are kept, appended, read and taken off.
use Rattle.std.proofs.Common.{◌≡◌, ℕ, suc, List, [], ◌∷◌, ◌++◌, length, map, Option, Some, None, refl, sym, ap, ◌∙◌, arith, append_assoc, append-nil, length-append, MatchOption, All}
use Rattle.std.proofs.lemmas.List.{get_or_at, map-append, same_from_push}
use Rattle.std.proofs.lemmas.List.Elements.{All-head, All-pop, All-push, All-tail}
use Rattle.least_table.specs.InnerPacked.{stored_step, IsKeptStep, AreWhole, best_at, steps_in, Grows}
use Rattle.least_table.specs.InnerPlans.{EndsWithPlan}
use Rattle.least_table.specs.InnerSets.{KeepsSets}
use Rattle.least_table.specs.InnerSteps.{Step, Halves, Whole, step_best, steps_of, top}
use Rattle.least_table.specs.InnerTrees.{LeastPlan, Leaf, Fork, Skip, plan_best}
use Rattle.least_table.specs.declared.plan.Packed.{Packed}
use Rattle.least_table.specs.declared.plan.Packed.TheVariants.{Set, Beside}
use Rattle.least_table.specs.declared.plan.Steps.{Steps}

-- ---- steps that are kept while others are appended

module _ (sets new : List (List (Option ℕ))) (keeps : KeepsSets sets new) where
  step_front : (x : Packed) → IsKeptStep sets x → (stored_step new x ≡ stored_step sets x) × IsKeptStep new x
  step_front (Set at) h = (rw (keeps at h).1 refl, (keeps at h).0)
  step_front (Beside upper at) h = (rw (keeps at h).1 refl, (keeps at h).0)
  step_front _ h = (refl, h)

  steps_front : (xs : List Packed) → All (IsKeptStep sets) xs → map (stored_step new) xs ≡ map (stored_step sets) xs
  steps_front [] h = refl
  steps_front (x ∷ xs) h = rw ((step_front x (All-head (IsKeptStep sets) x xs h)).0, steps_front xs (All-tail (IsKeptStep sets) x xs h)) refl

-- one step is appended, after what it names
pub grown : (old new : Steps) (p : Packed) (x : Step) → new.steps ≡ old.steps ++ p ∷ [] → KeepsSets old.sets new.sets → AreWhole old → IsKeptStep new.sets p → stored_step new.sets p ≡ x → Grows old new (x ∷ [])
grown old new p x e keeps h kept is = record {
  steps = rw (e, map-append (stored_step new.sets) old.steps (p ∷ []), steps_front old.sets new.sets keeps old.steps h, is) refl;
  whole = rw e (All-push (IsKeptStep new.sets) old.steps p (λ i d l. (step_front old.sets new.sets keeps _ (h i d l)).1) kept);
}

-- ---- the last step is that of the block

-- all steps but that of the block itself
abbrev pub below : LeastPlan → List Step
below (Leaf k) = []
below (Fork hops l r) = steps_of l ++ steps_of r
below (Skip k hops b ds t) = steps_of t

pub top_last : (p : LeastPlan) → (steps_of p ≡ below p ++ top p ∷ []) × (step_best (top p) ≡ plan_best p)
top_last (Leaf k) = (refl, refl)
top_last (Fork hops l r) = (refl, refl)
top_last (Skip k hops b ds t) = (refl, refl)

-- what is read there is best handed what the block is
pub read_top : (p : LeastPlan) (xs rest : List Step) (s : Steps) (n : ℕ) → steps_in s ≡ (xs ++ steps_of p) ++ rest → suc n ≡ length (xs ++ steps_of p) → best_at s n ≡ plan_best p
read_top p xs rest s n e l =
    let all : steps_in s ≡ (xs ++ below p) ++ top p ∷ rest = e ∙ grind (arith, top_last p, append_assoc) in
    let at : length (xs ++ below p) ≡ n = omega (arith, l, ap length (top_last p).0, length-append xs (steps_of p), length-append xs (below p), length-append (below p) (top p ∷ [])) in
    rw (all, get_or_at (xs ++ below p) (top p) rest (Halves []) n at) (top_last p).1

-- ---- the last step is taken off

-- the steps but for the last, which is taken off
abbrev pub left_of : Steps → List Packed → Steps
left_of old rest = record { steps = rest; sets = old.sets }

-- what is taken off a list is its last item
pub pop_last : {X : Type 0} (old rest new : List X) (y : X) (r : Option X) → old ≡ rest ++ y ∷ [] → MatchOption r ((old ≡ []) × (new ≡ [])) (λ x. old ≡ new ++ x ∷ []) → old ≡ new ++ y ∷ []
pop_last old rest new y None e h = absurd (omega (arith, ap length (sym e ∙ h.0), length-append rest (y ∷ [])))
pop_last old rest new y (Some x) e h = rw (same_from_push rest new y x (sym e ∙ h)).1 h

pub popped : (left : Steps) (rest : List Packed) (x : Packed) → left.steps ≡ rest ++ x ∷ [] → steps_in left ≡ map (stored_step left.sets) rest ++ stored_step left.sets x ∷ []
popped left rest x e = rw e (map-append (stored_step left.sets) rest (x ∷ []))

pub left_whole : (old : Steps) (rest : List Packed) (y : Packed) → old.steps ≡ rest ++ y ∷ [] → AreWhole old → AreWhole (left_of old rest) × IsKeptStep old.sets y
left_whole old rest y e h = All-pop (IsKeptStep old.sets) old.steps rest (Some y) e h

pub last_taken : (xs : List Step) (old left : Steps) (x : Step) (p : LeastPlan) → steps_in old ≡ steps_in left ++ x ∷ [] → steps_in old ≡ xs ++ steps_of p → (steps_in left ≡ xs ++ below p) × (x ≡ top p)
last_taken xs old left x p e f = same_from_push (steps_in left) (xs ++ below p) x (top p) (sym e ∙ f ∙ grind (arith, top_last p, append_assoc))

pub leaf_last : (k : ℕ) (xs : List Step) (p : LeastPlan) (old new : Steps) → steps_in old ≡ steps_in new ++ Whole k ∷ [] → EndsWithPlan xs p old → (p ≡ Leaf k) × (steps_in new ≡ xs)
leaf_last k xs p old new e ends = let t = last_taken xs old new (Whole k) p e ends.steps in (leaf_plan p t.1, grind (arith, t.0, leaf_plan p t.1, append-nil xs))
  where
    leaf_plan : (p : LeastPlan) → Whole k ≡ top p → p ≡ Leaf k
    leaf_plan (Leaf j) e = cc
    leaf_plan (Fork hops l r) e = cc
    leaf_plan (Skip j hops b ds t) e = cc
