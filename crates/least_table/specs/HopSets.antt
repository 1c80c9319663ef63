-- Lists of hops.
use Rattle.std.specs.Prelude.{ℕ, Bool, true, false, cond, ◌==◌, List, [], ◌∷◌, Option, Some, None}
use Rattle.std.specs.List.{list_any}

-- whether two hops, or no hops, are the same
abbrev pub is_same_hop : Option ℕ → Option ℕ → Bool
is_same_hop None None = true
is_same_hop (Some j) (Some k) = j == k
is_same_hop None (Some k) = false
is_same_hop (Some j) None = false

-- k is one of the hops
abbrev pub holds : List (Option ℕ) → Option ℕ → Bool
holds ks k = list_any (λ j. is_same_hop k j) ks

-- the two lists have a hop in common
abbrev pub meets : List (Option ℕ) → List (Option ℕ) → Bool
meets as' bs = list_any (λ k. holds bs k) as'

-- the first of the hops, or none if the list is empty
abbrev pub first_hop : List (Option ℕ) → Option ℕ
first_hop [] = None
first_hop (k ∷ ks) = k

-- 0 for a hop that is among the best, and one operation for any other
abbrev pub extra_route : Bool → ℕ
extra_route b = cond b 0 1
