-- Plans of blocks, as the code stores them.
use Rattle.std.specs.Prelude.{◌≡◌, ℕ, suc, Bool, true, false, List, [], ◌∷◌, Option, Some, None, ⊤}
use Rattle.least_table.specs.Tables.{IsBitTable, half, half_of, own}
use Rattle.least_table.specs.Wholes.{without_own}
use Rattle.nearest_table.specs.Blocks.{innermost_route}
use Rattle.least_table.specs.BestHops.{AreMerged, Any, Of}
use Rattle.nearest_table.specs.Plans.{Tree, IsPlan, tree_best}
use Rattle.nearest_table.specs.Plans as trees
use Rattle.nearest_table.specs.Told.{new_hop}
use Rattle.nearest_table.specs.Wanted.{Rises, wanted_hops}
use Rattle.nearest_table.specs.declared.plans.Plan.{Plan, Idle, One, Fork', Held'}

-- the tree of a plan
abbrev pub tree_of : Plan → Tree
tree_of Idle = trees.Stay Any
tree_of (One k) = trees.Stay (Of (k ∷ []))
tree_of (Fork' hops p l q r) = trees.Fork (wanted_hops hops) (tree_of l) (tree_of r)
tree_of (Held' k q p) = trees.Held k (tree_of p)

-- the plan cuts the block into halves with these plans
abbrev pub IsFork : Plan → Plan → Plan → Type 0
IsFork low high (Fork' hops p l q r) = (l ≡ low) × (r ≡ high) × AreMerged (tree_best (tree_of low)) (tree_best (tree_of high)) (wanted_hops hops) × Rises (wanted_hops hops)
IsFork low high _ = ⊥

-- p is a plan of each block without a route whose halves have the plans l and r
abbrev pub OfHalves : Tree → Tree → Plan → Type 0
OfHalves l r p = (v : ℕ) (h : List Bool → Option ℕ) (t : List (List Bool × Option ℕ)) → IsBitTable (suc v) t → own t ≡ None →
    IsPlan v (half_of false h) (half t false) l → IsPlan v (half_of true h) (half t true) r → IsPlan (suc v) h t (tree_of p)

-- and its best inherited hops ascend
abbrev pub IsJoined : Tree → Tree → Plan → Type 0
IsJoined l r p = OfHalves l r p × Rises (tree_best (tree_of p))

-- the tree of a block with this route, if any, by the tree without it
abbrev pub owned_tree : Option (Option ℕ) → Tree → Tree
owned_tree None t = t
owned_tree (Some k) t = trees.Held k t

-- the tree cuts a block of w bits no further than into single addresses
abbrev pub Fits : ℕ → Tree → Type 0
Fits w (trees.Stay hops) = ⊤
Fits w (trees.Fork hops l r) = (v : ℕ) × (w ≡ suc v) × Fits v l × Fits v r
Fits w (trees.Held k t) = Fits w t

-- The plan is one of a block of w free bits with the changes cs and the installed routes t. The block inherits the hop `old` from the
-- installed routes around it, and `told` from the changes around it, if there are any.
abbrev pub Plans : ℕ → Option (Option ℕ) → Option ℕ → List (List Bool × Option ℕ) → List (List Bool × Option ℕ) → Plan → Type 0
Plans w told old cs t p = IsPlan w (new_hop told old cs t) t (tree_of p) × Rises (tree_best (tree_of p))

-- the hop of the longest change that contains the block, which may be a change of the block itself
abbrev pub IsTold : Option (Option ℕ) → List (List Bool × Option ℕ) → Type 0
IsTold told cs = (o : Option (Option ℕ)) × (told ≡ innermost_route o (own cs))

-- a change or a route is strictly inside the block
abbrev pub HasMore : List (List Bool × Option ℕ) → List (List Bool × Option ℕ) → Type 0
HasMore cs t = without_own cs ≡ [] → without_own t ≡ [] → ⊥
