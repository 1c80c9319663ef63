-- A table by the route of the whole block and the tables of the halves.
use Rattle.std.specs.Prelude.{ℕ, Bool, true, false, List, [], ◌∷◌, ◌++◌, Option, Some, None}
use Rattle.least_table.specs.Tables.{inside}

-- the routes without that of the whole block
abbrev pub without_own : List (List Bool × Option ℕ) → List (List Bool × Option ℕ)
without_own [] = []
without_own (([], k) ∷ t) = without_own t
without_own ((b ∷ c, k) ∷ t) = (b ∷ c, k) ∷ without_own t

-- a table with this route of the whole block, or with none
abbrev pub with_own : Option (Option ℕ) → List (List Bool × Option ℕ) → List (List Bool × Option ℕ)
with_own None t = t
with_own (Some k) t = ([], k) ∷ t

-- the table with this route of the whole block, if any, and these tables of the halves
abbrev pub whole : Option (Option ℕ) → List (List Bool × Option ℕ) → List (List Bool × Option ℕ) → List (List Bool × Option ℕ)
whole o l r = with_own o (inside false l ++ inside true r)
