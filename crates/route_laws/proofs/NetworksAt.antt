-- The block of a network that is made of one.
use Rattle.std.proofs.Common.{◌≡◌, refl, ◌∙◌}
use Rattle.ipnet_addr.specs.Addresses.{Family, Ipv4, Ipv6}
use Rattle.ipnet_blocks.specs.Blocks.{Block}
use Rattle.ipnet_blocks.specs.Networks.{Network, block_of, net_of}
use Rattle.ipnet_blocks.proofs.NetworkBlocks.{block_round_trip}
use Rattle.ipnet.specs.IpNets.{block, net_in, network_at}

pub block_of-net_in : (f : Family) (n : Network) → block (net_in f n) ≡ block_of f n
block_of-net_in Ipv4 n = refl
block_of-net_in Ipv6 n = refl

pub of_network_at : (b : Block) → block (network_at b) ≡ b
of_network_at b = block_of-net_in b.family (net_of b) ∙ block_round_trip b
