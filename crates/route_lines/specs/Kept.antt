-- A line cutter as contracts see it.
use Rattle.std.specs.Prelude.{ℕ, Bool, List}

-- the first 80 of the bytes since the last line end, and whether there were more
pub record Kept : Type 0 where
  pub first : List ℕ
  pub more : Bool
