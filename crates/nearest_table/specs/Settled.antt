-- The edit of a block itself, and what its halves inherit then.
use Rattle.std.specs.Prelude.{ℕ, Bool, cond, List, [], ◌∷◌, Option, Some, None}
use Rattle.least_table.specs.BestHops.{Hops, first_best_hop, wants}

-- the edit of a block b without a route that has these best hops and inherits s, if it needs one
abbrev pub settled : List Bool → Hops → Option ℕ → List (List Bool × Option (Option ℕ))
settled b hops s = cond (wants hops s) [] ((b, Some (first_best_hop hops)) ∷ [])

-- the same of a block with a route of the hop k, which has these best hops without its route
abbrev pub passed_by : Option ℕ → Hops → Option ℕ → Option ℕ
passed_by k hops s = cond (wants hops k) k (cond (wants hops s) s (first_best_hop hops))

-- the edit of such a block b, if it needs one
abbrev pub settled_held : List Bool → Option ℕ → Hops → Option ℕ → List (List Bool × Option (Option ℕ))
settled_held b k hops s = cond (wants hops k) [] (cond (wants hops s) ((b, None) ∷ []) ((b, Some (first_best_hop hops)) ∷ []))
