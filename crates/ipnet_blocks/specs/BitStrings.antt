-- Bit strings: their order, and prefixes of them.
use Rattle.std.specs.Prelude.{Bool, true, false, cond, not, ◌&&◌, List, [], ◌∷◌}
use Rattle.std.specs.declared.cmp.Ordering.{Ordering}
use Rattle.std.specs.Ordering.{bool_cmp}
use Rattle.std.specs.Cmp.Lexicographic.{slice_cmp}

-- a prefix comes before the longer string, and 0 before 1
abbrev pub bits_cmp : List Bool → List Bool → Ordering
bits_cmp = slice_cmp bool_cmp

-- the first string is a prefix of the second
abbrev pub begins : List Bool → List Bool → Bool
begins [] q = true
begins (x ∷ xs) [] = false
begins (x ∷ xs) (y ∷ ys) = cond x y (not y) && begins xs ys
