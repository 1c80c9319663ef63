-- Bit strings in the order of a walk.
use Rattle.std.specs.Prelude.{ℕ, zero, suc, ◌+◌, ◌^◌, Bool, cond, not, List, [], ◌∷◌}
use Rattle.std.specs.Ordering.{is_lt}
use Rattle.ipnet_blocks.specs.BitStrings.{bits_cmp}

-- the string k comes after q, or is q if `inclusive`
abbrev pub is_from : List Bool → Bool → List Bool → Bool
is_from q inclusive k = cond inclusive (not (is_lt (bits_cmp k q))) (is_lt (bits_cmp q k))

-- the number of the first k bits; a shorter string is padded with zeros
abbrev pub number_from : ℕ → List Bool → ℕ
number_from k [] = 0
number_from zero (b ∷ bs) = 0
number_from (suc k) (b ∷ bs) = cond b (2 ^ k) 0 + number_from k bs
