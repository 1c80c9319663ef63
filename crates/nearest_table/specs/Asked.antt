-- The routes of a block, inside it and around it, by the list of routes.
use Rattle.std.specs.Prelude.{◌≡◌, ℕ, Bool, true, cond, List, [], ◌∷◌, ◌++◌, length, filter, nat_lt, Option, Some, None, ⊤, ◌↔◌}
use Rattle.ipnet_blocks.specs.BitStrings.{begins}
use Rattle.least_table.specs.Tables.{longest_route, own}
use Rattle.least_table.specs.Wholes.{without_own}
use Rattle.nearest_table.specs.Blocks.{around, inner}
use Rattle.least_table.specs.Nearest.{same_string}

-- the hop of the route of a block, if there is one
abbrev pub at : List (List Bool × Option ℕ) → List Bool → Option (Option ℕ)
at [] b = None
at (r ∷ t) b = cond (same_string r.0 b) (Some r.1) (at t b)

-- no route is strictly inside the block
abbrev pub NoneInside : List (List Bool × Option ℕ) → List Bool → Type 0
NoneInside [] b = ⊤
NoneInside (r ∷ t) b = (begins b r.0 ≡ true → r.0 ≡ b) × NoneInside t b

-- no route strictly inside b contains x
abbrev pub NoneHolds : List (List Bool × Option ℕ) → List Bool → List Bool → Type 0
NoneHolds [] b x = ⊤
NoneHolds (r ∷ t) b x = (begins b r.0 ≡ true → begins r.0 x ≡ true → r.0 ≡ b) × NoneHolds t b x

-- the routes with fewer than n bits
abbrev pub shorter : ℕ → List (List Bool × Option ℕ) → List (List Bool × Option ℕ)
shorter n t = filter (λ r. nat_lt (length r.0) n) t

-- the hop of a route, if there is one
abbrev pub hop_if : Option (List Bool × Option ℕ) → Option (Option ℕ)
hop_if None = None
hop_if (Some r) = Some r.1

-- the route of a block, the routes strictly inside it, the longest route strictly around it, and the addresses that no route strictly
-- inside contains
abbrev pub AskedLaw : Type 0
AskedLaw = (t : List (List Bool × Option ℕ)) (b : List Bool) →
    (own (inner b t) ≡ at t b) × ((without_own (inner b t) ≡ []) ↔ NoneInside t b) × (around b None t ≡ hop_if (longest_route (shorter (length b) t) b))
    × ((x : List Bool) → (longest_route (without_own (inner b t)) x ≡ None) ↔ NoneHolds t b (b ++ x))
