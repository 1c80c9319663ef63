-- Next hops and their numbers.
use Rattle.std.specs.Prelude.{ℕ, ◌<◌, ◌^◌, Option, Some, None}
use Rattle.route_choices.specs.declared.hop.Hop.{Hop}
use Rattle.route_choices.specs.declared.hop.Hop.TheVariants.{Number, Drop}

-- a hop: `drop`, or a number below 2^32
abbrev pub IsHop : Hop → Type 0
IsHop (Number k) = k < 2 ^ 32
IsHop Drop = Unit {0}

-- the number of a hop; `drop` has none
abbrev pub number_of : Hop → Option ℕ
number_of (Number k) = Some k
number_of Drop = None

-- the hop of a number, or `drop` for none
abbrev pub hop_from : Option ℕ → Hop
hop_from (Some k) = Number k
hop_from None = Drop
