-- The hops in an index.
use Rattle.std.specs.Prelude.{ℕ, ◌^◌, List, Option, Some, None}
use Rattle.ipnet_addr.specs.Addresses.{Address, Family, Ipv4, Ipv6}
use Rattle.hop_index.specs.Ranges.{HopRange, hop_in}

-- ranges of addresses of either family, each with its hop
pub record Index : Type 0 where
  pub v4 : List HopRange
  pub v6 : List HopRange

-- the ranges of a family
abbrev pub ranges_of : Family → Index → List HopRange
ranges_of Ipv4 i = i.v4
ranges_of Ipv6 i = i.v6

-- the hop of the range that contains the address, or none if no range does
abbrev pub hop_of : Index → Address → Option ℕ
hop_of i x = hop_in (ranges_of x.family i) x.number

-- the number of a hop, or 2^32 for none
abbrev pub hop_number : Option ℕ → ℕ
hop_number None = 2 ^ 32
hop_number (Some k) = k
