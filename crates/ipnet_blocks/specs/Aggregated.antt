-- The fewest blocks that cover the same addresses as some others.
use Rattle.std.specs.Prelude.{◌≡◌, ◌≤◌, List, length, map, All, Any}
use Rattle.ipnet_addr.specs.Addresses.{Family, Address}
use Rattle.ipnet_blocks.specs.Blocks.{Block, HasAddress, IsAscending}
use Rattle.ipnet_blocks.specs.Networks.{Network, block_of, IsTruncated}
use Rattle.ipnet_blocks.specs.Maximal.{IsMaximal, IsUnion, IsShortest}

-- an address of one of the blocks
abbrev pub InSome : List Block → Address → Type 0
InSome bs x = Any (λ b. HasAddress b x) bs

-- `bs` is the list of maximal blocks of the union of `given`: no list with this union is shorter, and no other ascending one as short
pub record IsAggregated (given bs : List Block) : Type 0 where
  pub maximal : IsMaximal (InSome given) bs
  pub union : IsUnion (InSome given) bs
  pub shortest : IsShortest (InSome given) bs
  pub only : (cs : List Block) → IsUnion (InSome given) cs → IsAscending cs → length cs ≤ length bs → bs ≡ cs

-- the same for networks of one family; the result has no host bits
pub record AreAggregated (family : Family) (given networks : List Network) : Type 0 where
  pub blocks : IsAggregated (map (block_of family) given) (map (block_of family) networks)
  pub truncated : All (IsTruncated family) networks
