-- Plans behind other steps.
use Rattle.std.specs.Prelude.{◌≡◌, ℕ, suc, ◌-◌, Bool, true, false, not, List, ◌++◌, length, Option}
use Rattle.least_table.specs.Pieces.{piece_hop, strings}
use Rattle.least_table.specs.Tables.{half_of, within}
use Rattle.least_table.specs.InnerPieces.{AllShare, beyond}
use Rattle.least_table.specs.InnerPacked.{AreWhole, steps_in}
use Rattle.least_table.specs.InnerRising.{IsRising}
use Rattle.least_table.specs.InnerSteps.{Step, steps_of}
use Rattle.least_table.specs.InnerTrees.{LeastPlan, Leaf, IsLeastPlan, AllHave, plan_best, plan_routes}
use Rattle.least_table.specs.declared.plan.LowerPlan.{LowerPlan}
use Rattle.least_table.specs.declared.plan.LowerPlan.TheVariants as held
use Rattle.least_table.specs.declared.plan.Steps.{Steps}

-- r is a plan of each block whose halves have the plans p and q
abbrev pub JoinsHalves : LeastPlan → LeastPlan → LeastPlan → Type 0
JoinsHalves p q r = (v : ℕ) (h : List Bool → Option ℕ) → IsLeastPlan v (half_of false h) p → IsLeastPlan v (half_of true h) q → IsLeastPlan (suc v) h r

-- r is a plan of each block of which one half (the upper one if the test is true) has the plan p, and the other half has the hop k
abbrev pub OfHalf : Bool → Option ℕ → LeastPlan → LeastPlan → Type 0
OfHalf upper k p r = (v : ℕ) (h : List Bool → Option ℕ) → IsLeastPlan v (half_of upper h) p → AllHave v (half_of (not upper) h) k → IsLeastPlan (suc v) h r

-- p is a plan of the block b, of d bits, for these pieces, which are inside it
pub record IsPlanOf (w d : ℕ) (b : List Bool) (ps : List (List Bool × ℕ)) (p : LeastPlan) : Type 0 where
  pub plans : IsLeastPlan (w - d) (piece_hop (beyond d ps)) p
  pub inside : AllShare b ps

-- the steps are xs followed by those of the plan p
pub record EndsWithPlan (xs : List Step) (p : LeastPlan) (s : Steps) : Type 0 where
  pub steps : steps_in s ≡ xs ++ steps_of p
  pub whole : AreWhole s
  pub rising : IsRising (plan_best p)

-- the steps are xs followed by those of the plan p of a block with n free bits and some hops
pub record EndsWithin (n : ℕ) (xs : List Step) (p : LeastPlan) (s : Steps) : Type 0 where
  pub steps : steps_in s ≡ xs ++ steps_of p
  pub whole : AreWhole s
  pub plans : (h : List Bool → Option ℕ) × IsLeastPlan n h p

-- the steps are xs followed by the plan p of a lower half, unless its addresses have one hop; then it has no step
abbrev pub IsHeld : LowerPlan → LeastPlan → List Step → List Step → Type 0
IsHeld (held.Leaf k) p xs ys = (p ≡ Leaf k) × (ys ≡ xs)
IsHeld (held.At at) p xs ys = (ys ≡ xs ++ steps_of p) × (suc at ≡ length ys)

-- the steps of the plan p of the block b are removed, and its routes if it inherits s come before the others
pub record Stores {B : Type 0} (string : B → List Bool) (b : List Bool) (s : Option ℕ) (xs : List Step) (p : LeastPlan) (old new : List (B × Option ℕ)) (before after : Steps) : Type 0 where
  pub steps : steps_in after ≡ xs
  pub whole : AreWhole after
  pub routes : strings string new ≡ within b (plan_routes p s) ++ strings string old
