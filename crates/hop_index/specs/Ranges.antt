-- Ranges of numbers, each with a hop or none.
use Rattle.std.specs.Prelude.{ℕ, nat_le, if◌then◌else◌, List, [], ◌∷◌, Option, None}

-- the numbers above the range before, up to the last one, have this hop or none
pub record HopRange : Type 0 where
  pub last : ℕ
  pub hop : Option ℕ

-- the hop of the first range that ends at the number or above, or none if no range does
abbrev pub hop_in : List HopRange → ℕ → Option ℕ
hop_in [] x = None
hop_in (r ∷ rs) x = if nat_le x r.last then r.hop else hop_in rs x
