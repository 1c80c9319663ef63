-- Plans of blocks: how a block is cut, its best inherited hops, and the routes that follow.
use Rattle.std.specs.Prelude.{◌≡◌, ℕ, suc, ◌+◌, Bool, true, false, cond, List, [], ◌∷◌, ◌++◌, length, Option, Some}
use Rattle.ipnet_blocks.specs.BitStrings.{begins}
use Rattle.least_table.specs.Tables.{half_of, inner_of, inside, within}
use Rattle.least_table.specs.HopSets.{is_same_hop, holds, first_hop}
use Rattle.least_table.specs.BestHops.{Of, AreMerged}

-- A block whose addresses all have one hop. A block cut into halves, and its best inherited hops. A block that is cut into a smaller
-- block and the addresses outside it, which all have one hop or none: this hop, the best inherited hops, the half that contains the
-- smaller block, and the path from there.
pub data LeastPlan : Type 0 where
  Leaf : ℕ → LeastPlan
  Fork : List (Option ℕ) → LeastPlan → LeastPlan → LeastPlan
  Skip : Option ℕ → List (Option ℕ) → Bool → List Bool → LeastPlan → LeastPlan

-- the best inherited hops of the block
abbrev pub plan_best : LeastPlan → List (Option ℕ)
plan_best (Leaf k) = Some k ∷ []
plan_best (Fork hops l r) = hops
plan_best (Skip k hops b ds t) = hops

-- all addresses of the block have the hop k
abbrev pub AllHave : ℕ → (List Bool → Option ℕ) → Option ℕ → Type 0
AllHave w h k = (x : List Bool) → length x ≡ w → h x ≡ k

-- all addresses outside the smaller block on this path have the hop k
abbrev pub OneOutside : ℕ → (List Bool → Option ℕ) → List Bool → Option ℕ → Type 0
OneOutside w h ds k = (x : List Bool) → length x ≡ w → begins ds x ≡ false → h x ≡ k

-- the best inherited hops of a block, if those of the smaller block inside the half are `below`: one level, or several
abbrev pub AreAbove : Option ℕ → List (Option ℕ) → List Bool → List (Option ℕ) → Type 0
AreAbove k below [] hops = AreMerged (Of (k ∷ [])) (Of below) (Of hops)
AreAbove k below (c ∷ ds) hops = hops ≡ k ∷ []

-- the tree is a plan of a block of w free bits whose addresses have the hops h
abbrev pub IsLeastPlan : ℕ → (List Bool → Option ℕ) → LeastPlan → Type 0
IsLeastPlan w h (Leaf k) = AllHave w h (Some k)
IsLeastPlan w h (Fork hops l r) = (v : ℕ) × (w ≡ suc v) × AreMerged (Of (plan_best l)) (Of (plan_best r)) (Of hops) × IsLeastPlan v (half_of false h) l × IsLeastPlan v (half_of true h) r
IsLeastPlan w h (Skip k hops b ds t) = (v : ℕ) × (w ≡ suc (length ds + v)) × AreAbove k (plan_best t) ds hops × OneOutside w h (b ∷ ds) k × IsLeastPlan v (inner_of (b ∷ ds) h) t

-- the routes of a block whose addresses have the hop k, if it inherits s
abbrev pub lone_route : Option ℕ → Option ℕ → List (List Bool × Option ℕ)
lone_route k s = cond (is_same_hop s k) [] (([], k) ∷ [])

-- the routes of one half of a block, while the addresses of the other half have the hop k, if both inherit s
abbrev pub beside : Bool → Option ℕ → Option ℕ → List (List Bool × Option ℕ) → List (List Bool × Option ℕ)
beside true k s t = inside false (lone_route k s) ++ inside true t
beside false k s t = inside false t ++ inside true (lone_route k s)

-- the routes of a block with these best hops if it inherits s, by those of its parts for each hop that they inherit
abbrev pub with_best : List (Option ℕ) → (Option ℕ → List (List Bool × Option ℕ)) → Option ℕ → List (List Bool × Option ℕ)
with_best hops parts s = cond (holds hops s) (parts s) (([], first_hop hops) ∷ parts (first_hop hops))

-- the routes of the tree if its block inherits s
abbrev pub plan_routes : LeastPlan → Option ℕ → List (List Bool × Option ℕ)
plan_routes (Leaf k) s = with_best (Some k ∷ []) (λ i. []) s
plan_routes (Fork hops l r) s = with_best hops (λ i. inside false (plan_routes l i) ++ inside true (plan_routes r i)) s
plan_routes (Skip k hops b ds t) s = with_best hops (λ i. beside b k i (within ds (plan_routes t i))) s
