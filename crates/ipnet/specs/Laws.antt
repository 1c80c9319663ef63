-- The theorems about networks, as statements.
use Rattle.std.specs.Prelude.{◌≡◌, ◌↔◌, List, map, All}
use Rattle.ipnet_blocks.specs.Aggregated.{IsAggregated}
use Rattle.ipnet_blocks.specs.Blocks.{IsBlock, IsBefore}
use Rattle.ipnet_blocks.specs.Networks.{IsNetwork, IsTruncated}
use Rattle.ipnet.specs.IpNets.{block, family, parts, IsNetBefore}
use Rattle.ipnet.specs.declared.ip_net.IpNet.{IpNet}

-- the block of a network is valid
abbrev pub BlockIsBlock : Type 0
BlockIsBlock = (n : IpNet) → IsNetwork (family n) (parts n) → IsBlock (block n)

-- networks without host bits are ordered as their blocks are
abbrev pub OrderIsOfBlocks : Type 0
OrderIsOfBlocks = (m n : IpNet) → IsTruncated (family m) (parts m) → IsTruncated (family n) (parts n) → IsNetBefore m n ↔ IsBefore (block m) (block n)

-- aggregating networks again doesn't change the list
abbrev pub StaysAggregated : Type 0
StaysAggregated = (given ns ms : List IpNet) → IsAggregated (map block given) (map block ns) → All (λ n. IsTruncated (family n) (parts n)) ns
    → IsAggregated (map block ns) (map block ms) → All (λ n. IsTruncated (family n) (parts n)) ms → ms ≡ ns
