-- The steps of a plan as they are stored: eight bytes each, and the sets that all steps share.
use Rattle.std.specs.Prelude.{◌≡◌, ℕ, ◌<◌, ◌≤◌, ◌^◌, List, [], ◌∷◌, ◌++◌, drop, map, slice_index_or, Option, Some, None, All, ⊤}
use Rattle.ipnet_blocks.specs.Blocks.{digits}
use Rattle.least_table.specs.InnerSets.{HasSet, set_at}
use Rattle.least_table.specs.HopSets.{first_hop}
use Rattle.least_table.specs.InnerSteps.{Step, step_best}
use Rattle.least_table.specs.InnerSteps as steps
use Rattle.least_table.specs.declared.plan.Packed.{Packed}
use Rattle.least_table.specs.declared.plan.Packed.TheVariants.{Leaf, Hop, NoHop, HopOrNone, Set, Beside}
use Rattle.least_table.specs.declared.plan.Steps.{Steps}
use Rattle.least_table.specs.declared.plan.Best.{Best}
use Rattle.least_table.specs.declared.plan.Best.TheVariants as bests

-- the step that is stored in this way
abbrev pub stored_step : List (List (Option ℕ)) → Packed → Step
stored_step sets (Leaf k) = steps.Whole k
stored_step sets (Hop n x k) = steps.cut_on (digits n x) (Some k) (Some k ∷ [])
stored_step sets (NoHop n x) = steps.cut_on (digits n x) None (None ∷ [])
stored_step sets (HopOrNone n x k) = steps.cut_on (digits n x) None (None ∷ Some k ∷ [])
stored_step sets (Set at) = steps.Halves (set_at sets at)
stored_step sets (Beside upper at) = steps.Around (upper ∷ []) (first_hop (set_at sets at)) (drop 1 (set_at sets at))

-- the set that the step refers to is in the list of sets, and its bits are no more than its levels
abbrev pub IsKeptStep : List (List (Option ℕ)) → Packed → Type 0
IsKeptStep sets (Leaf k) = ⊤
IsKeptStep sets (Hop n x k) = (n ≤ 16) × (x < 2 ^ n)
IsKeptStep sets (NoHop n x) = (n ≤ 16) × (x < 2 ^ n)
IsKeptStep sets (HopOrNone n x k) = (n ≤ 16) × (x < 2 ^ n)
IsKeptStep sets (Set at) = HasSet sets at
IsKeptStep sets (Beside upper at) = HasSet sets at

abbrev pub AreWhole : Steps → Type 0
AreWhole s = All (IsKeptStep s.sets) s.steps

abbrev pub steps_in : Steps → List Step
steps_in s = map (stored_step s.sets) s.steps

-- the best inherited hops of the block of the step at an index
abbrev pub best_at : Steps → ℕ → List (Option ℕ)
best_at s at = step_best (slice_index_or (steps_in s) at (steps.Halves []))

-- this step is stored in this way, whatever the sets are
abbrev pub IsAlways : Packed → Step → Type 0
IsAlways p x = (sets : List (List (Option ℕ))) → (stored_step sets p ≡ x) × IsKeptStep sets p

-- these steps were appended
pub record Grows (old new : Steps) (xs : List Step) : Type 0 where
  pub steps : steps_in new ≡ steps_in old ++ xs
  pub whole : AreWhole new

-- the hops of a set
abbrev pub best_in : Best → List (Option ℕ)
best_in (bests.One k) = k ∷ []
best_in (bests.Two ks) = ks
best_in (bests.Several ks) = ks.now
