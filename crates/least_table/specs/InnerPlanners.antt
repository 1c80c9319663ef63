-- The steps of a planner: plans of lower halves, and after them the plan of the block of the last piece.
use Rattle.std.specs.Prelude.{◌≡◌, ℕ, suc, ◌<◌, ◌≤◌, Bool, true, false, List, [], ◌∷◌, ◌++◌, length, take, reverse, slice_index_or, MatchOption, ⊤}
use Rattle.least_table.specs.InnerPacked.{AreWhole, steps_in}
use Rattle.least_table.specs.InnerPlans.{EndsWithPlan, IsHeld, IsPlanOf}
use Rattle.least_table.specs.InnerRising.{IsRising}
use Rattle.least_table.specs.InnerSteps.{Step}
use Rattle.least_table.specs.InnerTrees.{LeastPlan, plan_best}
use Rattle.least_table.specs.declared.plan.Steps.{Steps}
use Rattle.least_table.specs.declared.planner.Lower.{Lower}
use Rattle.least_table.specs.declared.planner.Planner.{Planner}

module _ (w : ℕ) where
  -- after the steps xs come those of a plan for these pieces, of the block of the first d bits of a
  pub record HasPlan (a : List Bool) (d : ℕ) (ps : List (List Bool × ℕ)) (xs : List Step) (s : Steps) : Type 0 where
    pub plan : LeastPlan
    pub ends : EndsWithPlan xs plan s
    pub is : IsPlanOf w d (take d a) ps plan

  -- the last steps, unless they are held elsewhere, are a plan of the lower half of the block b
  pub record IsLower (b : List Bool) (o : Lower) (ps : List (List Bool × ℕ)) (xs : List Step) : Type 0 where
    pub plan : LeastPlan
    pub pieces : List (List Bool × ℕ)
    pub others : List (List Bool × ℕ)
    pub before : List Step
    pub all : ps ≡ others ++ pieces
    pub held : IsHeld o.planned plan before xs
    pub rising : IsRising (plan_best plan)
    pub is : IsPlanOf w (suc o.depth) (b ++ false ∷ []) pieces plan

  -- the pieces and the steps of lower halves, the innermost first; their blocks have fewer than d bits, and the upper halves contain a
  abbrev pub AreLowers : List Lower → List Bool → ℕ → List (List Bool × ℕ) → List Step → Type 0
  AreLowers [] a d ps xs = (ps ≡ []) × (xs ≡ [])
  AreLowers (o ∷ os) a d ps xs = (o.depth < d) × (slice_index_or a o.depth false ≡ true) × (l : IsLower (take o.depth a) o ps xs) × AreLowers os a o.depth l.others l.before

  -- the pieces are planned, up to the block of the first d bits of a, which contains the last of them; the blocks of the lower halves
  -- have fewer than e bits
  pub record ArePlanned (a : List Bool) (d e : ℕ) (ps : List (List Bool × ℕ)) (lowers : List Lower) (s : Steps) : Type 0 where
    pub others : List (List Bool × ℕ)
    pub pieces : List (List Bool × ℕ)
    pub before : List Step
    pub all : ps ≡ others ++ pieces
    pub lower : AreLowers (reverse lowers) a e others before
    pub plans : HasPlan a d pieces before s

  -- the pieces so far; the last one is the block a
  pub record EndAt (a : List Bool) (ps : List (List Bool × ℕ)) (lowers : List Lower) (s : Steps) : Type 0 where
    pub others : List (List Bool × ℕ)
    pub hop : ℕ
    pub last : ps ≡ others ++ (a, hop) ∷ []
    pub inside : length a ≤ w
    pub planned : ArePlanned a (length a) (length a) ps lowers s

  -- the pieces so far
  abbrev pub HasPlanned : {B : Type 0} → Planner B → List (List Bool × ℕ) → Type 0
  HasPlanned p ps = MatchOption p.last ((ps ≡ []) × (p.lowers.items ≡ []) × (steps_in p.steps ≡ []) × AreWhole p.steps) (λ a. EndAt a ps p.lowers.items p.steps)

-- the innermost block has fewer than d bits
abbrev pub IsDeeper : ℕ → List Lower → Type 0
IsDeeper d [] = ⊤
IsDeeper d (o ∷ os) = o.depth < d
