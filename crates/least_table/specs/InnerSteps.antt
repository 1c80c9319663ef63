-- The steps of a plan.
use Rattle.std.specs.Prelude.{◌≡◌, ℕ, ◌<◌, ◌^◌, Bool, List, [], ◌∷◌, ◌++◌, Option, Some, All, IfSome, IsTrue}
use Rattle.least_table.specs.InnerTrees.{LeastPlan, Leaf, Fork, Skip}
use Rattle.least_table.specs.declared.plan.Cut.{Cut}
use Rattle.least_table.specs.declared.plan.Cut.TheVariants as cuts

-- A block whose addresses all have one hop. A block cut into halves, and its best inherited hops. A block that is cut into the smaller
-- block on a path and the addresses outside it, which have one hop: the path, this hop, and the best inherited hops.
pub data Step : Type 0 where
  Whole : ℕ → Step
  Halves : List (Option ℕ) → Step
  Around : List Bool → Option ℕ → List (Option ℕ) → Step

-- the best inherited hops of the block
abbrev pub step_best : Step → List (Option ℕ)
step_best (Whole k) = Some k ∷ []
step_best (Halves hops) = hops
step_best (Around ds k hops) = hops

-- how the block is cut
abbrev pub cut_in : Step → Cut
cut_in (Whole k) = cuts.Whole
cut_in (Halves hops) = cuts.Halves
cut_in (Around ds k hops) = cuts.Around ds k

-- a block that is cut on a path, into halves if the path is empty
abbrev pub cut_on : List Bool → Option ℕ → List (Option ℕ) → Step
cut_on [] k hops = Halves hops
cut_on (b ∷ ds) k hops = Around (b ∷ ds) k hops

-- the step of the block itself
abbrev pub top : LeastPlan → Step
top (Leaf k) = Whole k
top (Fork hops l r) = Halves hops
top (Skip k hops b ds t) = Around (b ∷ ds) k hops

-- all steps: those of the lower half or the smaller block, those of the upper half, then that of the block
abbrev pub steps_of : LeastPlan → List Step
steps_of (Leaf k) = Whole k ∷ []
steps_of (Fork hops l r) = (steps_of l ++ steps_of r) ++ Halves hops ∷ []
steps_of (Skip k hops b ds t) = steps_of t ++ Around (b ∷ ds) k hops ∷ []

-- x cuts a block into a smaller one past addresses with the hop k; from the parent of the block, of which it is the upper half if the
-- test is true, the path is `turns`
abbrev pub IsLonger : Bool → Option ℕ → Step → List Bool → Type 0
IsLonger upper k x turns = (ds : List Bool) × (hops : List (Option ℕ)) × (x ≡ Around ds k hops) × (turns ≡ upper ∷ ds)

-- each network has zeros after its bits, and its hop is a number of 32 bits or none
abbrev pub AreNetworks : {B : Type 0} → (B → Bool) → (List Bool → B) → (B → List Bool) → List (B × Option ℕ) → Type 0
AreNetworks fits of_bits string rs = All (λ r. IsTrue (fits r.0) × (r.0 ≡ of_bits (string r.0)) × IfSome r.1 (λ n. n < 2 ^ 32)) rs
