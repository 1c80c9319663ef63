-- The bits of a prefix.
use Rattle.std.specs.Prelude.{◌≡◌, ℕ, ◌-◌, ◌*◌, ◌/◌, ◌^◌, ◌<◌, List, Bool}
use Rattle.ipnet_blocks.specs.Blocks.{digits}

-- the first n bits of a number of w bits
abbrev pub prefix_bits : ℕ → ℕ → ℕ → List Bool
prefix_bits w r n = digits n (r / 2 ^ (w - n))

-- a number of w bits with zeros after the first n bits
pub record IsMasked (w r n : ℕ) : Type 0 where
  pub below : r < 2 ^ w
  pub clear : r / 2 ^ (w - n) * 2 ^ (w - n) ≡ r
