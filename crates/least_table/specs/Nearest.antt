-- The number of blocks in which two tables differ, and the tables with given hops that are nearest to a table.
use Rattle.std.specs.Prelude.{◌≡◌, ℕ, ◌+◌, ◌≤◌, Bool, true, false, cond, not, ◌&&◌, List, [], ◌∷◌, filter, length, Option}
use Rattle.std.specs.List.{list_any}
use Rattle.least_table.specs.HopSets.{is_same_hop}
use Rattle.least_table.specs.Tables.{GivesHops}

-- whether two bit strings are the same
abbrev pub same_string : List Bool → List Bool → Bool
same_string [] [] = true
same_string [] (y ∷ ys) = false
same_string (x ∷ xs) [] = false
same_string (x ∷ xs) (y ∷ ys) = cond x y (not y) && same_string xs ys

-- whether the table has exactly this route
abbrev pub has : List (List Bool × Option ℕ) → List Bool × Option ℕ → Bool
has t r = list_any (λ q. same_string q.0 r.0 && is_same_hop q.1 r.1) t

-- whether the table has a route of this block
abbrev pub stores : List (List Bool × Option ℕ) → List Bool → Bool
stores t b = list_any (λ q. same_string q.0 b) t

-- the routes of u that t doesn't have
abbrev pub missing_routes : List (List Bool × Option ℕ) → List (List Bool × Option ℕ) → List (List Bool × Option ℕ)
missing_routes t u = filter (λ r. not (has t r)) u

-- the routes of t whose blocks u doesn't store
abbrev pub surplus_routes : List (List Bool × Option ℕ) → List (List Bool × Option ℕ) → List (List Bool × Option ℕ)
surplus_routes t u = filter (λ r. not (stores u r.0)) t

-- the number of blocks in which two tables differ: each takes one operation, an install or a remove
abbrev pub distance : List (List Bool × Option ℕ) → List (List Bool × Option ℕ) → ℕ
distance t u = length (missing_routes t u) + length (surplus_routes t u)

-- u is a table with the hops h if the block inherits s, and no table with these hops is nearer to t
pub record IsNearestTable (w : ℕ) (h : List Bool → Option ℕ) (s : Option ℕ) (t u : List (List Bool × Option ℕ)) : Type 0 where
  pub gives : GivesHops w h s u
  pub nearest : (v : List (List Bool × Option ℕ)) → GivesHops w h s v → distance t u ≤ distance t v

-- n is the least distance from t of a table that gives the addresses of a block of w free bits the hops h, if the block inherits s
pub record IsLeastDistance (w : ℕ) (h : List Bool → Option ℕ) (t : List (List Bool × Option ℕ)) (s : Option ℕ) (n : ℕ) : Type 0 where
  pub reached : (u : List (List Bool × Option ℕ)) × GivesHops w h s u × (distance t u ≡ n)
  pub least : (v : List (List Bool × Option ℕ)) → GivesHops w h s v → n ≤ distance t v
