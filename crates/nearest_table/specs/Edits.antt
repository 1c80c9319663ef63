-- Edits of a table: each installs a route of a block, or removes that of a block.
use Rattle.std.specs.Prelude.{◌≡◌, ℕ, Bool, List, [], ◌∷◌, Option, Some, None}
use Rattle.least_table.specs.Nearest.{missing_routes, surplus_routes}

-- the routes that are installed
abbrev pub installed_in : List (List Bool × Option (Option ℕ)) → List (List Bool × Option ℕ)
installed_in [] = []
installed_in ((b, Some k) ∷ es) = (b, k) ∷ installed_in es
installed_in ((b, None) ∷ es) = installed_in es

-- the blocks whose routes are removed
abbrev pub removed_in : List (List Bool × Option (Option ℕ)) → List (List Bool)
removed_in [] = []
removed_in ((b, Some k) ∷ es) = removed_in es
removed_in ((b, None) ∷ es) = b ∷ removed_in es

-- the blocks of the routes
abbrev pub blocks : List (List Bool × Option ℕ) → List (List Bool)
blocks [] = []
blocks (r ∷ t) = r.0 ∷ blocks t

-- The edits are those between two tables. They install what the second has and the first hasn't, and remove what only the first
-- stores, both in the order of the tables.
pub record AreEdits (t u : List (List Bool × Option ℕ)) (es : List (List Bool × Option (Option ℕ))) : Type 0 where
  pub installs : installed_in es ≡ missing_routes t u
  pub removes : removed_in es ≡ blocks (surplus_routes t u)
