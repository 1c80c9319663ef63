-- The routes inside a block, and those around it.
use Rattle.std.specs.Prelude.{◌≡◌, ◌≢◌, ℕ, Bool, true, false, List, [], ◌∷◌, length, Option, Some, None}
use Rattle.least_table.specs.Tables.{half, longest_route, own, passed}
use Rattle.least_table.specs.Wholes.{whole}

-- each address has a route
abbrev pub Covers : ℕ → List (List Bool × Option ℕ) → Type 0
Covers w t = (x : List Bool) → length x ≡ w → longest_route t x ≢ None

-- each address has a route, or some address has none
abbrev pub IsCovered : Bool → ℕ → List (List Bool × Option ℕ) → Type 0
IsCovered true w t = Covers w t
IsCovered false w t = (x : List Bool) × (length x ≡ w) × (longest_route t x ≡ None)

-- the routes inside the block ds, without its bits
abbrev pub inner : List Bool → List (List Bool × Option ℕ) → List (List Bool × Option ℕ)
inner [] t = t
inner (b ∷ ds) t = inner ds (half t b)

-- the hop that the block ds inherits from the routes around it, if the whole inherits s
abbrev pub inherited_hop : List Bool → Option ℕ → List (List Bool × Option ℕ) → Option ℕ
inherited_hop [] s t = s
inherited_hop (b ∷ ds) s t = inherited_hop ds (passed s (own t)) (half t b)

-- the hop of the inner one of two routes, if there is one
abbrev pub innermost_route : Option (Option ℕ) → Option (Option ℕ) → Option (Option ℕ)
innermost_route o None = o
innermost_route o (Some k) = Some k

-- the hop of the longest route strictly around the block ds, or o if there is none
abbrev pub around : List Bool → Option (Option ℕ) → List (List Bool × Option ℕ) → Option (Option ℕ)
around [] o t = o
around (b ∷ ds) o t = around ds (innermost_route o (own t)) (half t b)

-- the table with the routes u in place of those inside the block ds
abbrev pub put : List Bool → List (List Bool × Option ℕ) → List (List Bool × Option ℕ) → List (List Bool × Option ℕ)
put [] t u = u
put (false ∷ ds) t u = whole (own t) (put ds (half t false) u) (half t true)
put (true ∷ ds) t u = whole (own t) (half t false) (put ds (half t true) u)
