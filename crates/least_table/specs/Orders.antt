-- The order of routes: by least address, and then by length.
use Rattle.std.specs.Prelude.{◌≡◌, ℕ, Bool, List, [], ◌∷◌, Option, ⊤}
use Rattle.std.specs.declared.cmp.Ordering.TheVariants.{Less}
use Rattle.ipnet_blocks.specs.BitStrings.{bits_cmp}

-- the string comes before that of each route
abbrev pub ComesBeforeAll : List Bool → List (List Bool × Option ℕ) → Type 0
ComesBeforeAll a [] = ⊤
ComesBeforeAll a (r ∷ t) = (bits_cmp a r.0 ≡ Less) × ComesBeforeAll a t

-- each route comes before each later one
abbrev pub IsInOrder : List (List Bool × Option ℕ) → Type 0
IsInOrder [] = ⊤
IsInOrder (r ∷ t) = ComesBeforeAll r.0 t × IsInOrder t
