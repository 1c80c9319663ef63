-- Networks of either family.
use Rattle.std.specs.Prelude.{◌≡◌, ◌<◌, ◌⊎◌}
use Rattle.ipnet_addr.specs.Addresses.{Family, Ipv4, Ipv6, rank}
use Rattle.ipnet_blocks.specs.Blocks.{Block}
use Rattle.ipnet_blocks.specs.Networks.{Network, block_of, net_of, IsNetworkBefore}
use Rattle.ipnet.specs.declared.ip_net.IpNet.{IpNet}
use Rattle.ipnet.specs.declared.ip_net.IpNet.TheVariants.{V4, V6}

-- the family of a network
abbrev pub family : IpNet → Family
family (V4 n) = Ipv4
family (V6 n) = Ipv6

-- the number of the network's address, with its host bits, and its length
abbrev pub parts : IpNet → Network
parts (V4 n) = n
parts (V6 n) = n

-- the block with the same addresses
abbrev pub block : IpNet → Block
block n = block_of (family n) (parts n)

-- the network of a family with these parts
abbrev pub net_in : Family → Network → IpNet
net_in Ipv4 n = V4 n
net_in Ipv6 n = V6 n

-- ordered by family, IPv4 first, then by address, then by length
abbrev pub IsNetBefore : IpNet → IpNet → Type 0
IsNetBefore m n = (rank (family m) < rank (family n)) ⊎ ((rank (family m) ≡ rank (family n)) × IsNetworkBefore (parts m) (parts n))

-- the network of a block, without host bits
abbrev pub network_at : Block → IpNet
network_at b = net_in b.family (net_of b)
