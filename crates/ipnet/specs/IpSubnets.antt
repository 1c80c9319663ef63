-- Subnet iterators of either family.
use Rattle.std.specs.Prelude.{◌≡◌, ◌<◌, ◌⊎◌, List, map}
use Rattle.ipnet_addr.specs.Addresses.{Family, Ipv4, Ipv6, rank}
use Rattle.ipnet_blocks.specs.Blocks.{Block}
use Rattle.ipnet_blocks.specs.Cuts.{Limits, cut, subnets, after_first}
use Rattle.ipnet.specs.declared.ip_net.IpNet.{IpNet}
use Rattle.ipnet.specs.declared.ip_net.IpNet.TheVariants as net
use Rattle.ipnet.specs.declared.subnets.IpSubnets.{IpSubnets}
use Rattle.ipnet.specs.declared.subnets.IpSubnets.TheVariants.{V4, V6}

-- the remaining blocks
abbrev pub ip_cut : IpSubnets → List Block
ip_cut (V4 l) = cut Ipv4 l
ip_cut (V6 l) = cut Ipv6 l

-- the iterator of a family with these limits
abbrev pub ip_limits : Family → Limits → IpSubnets
ip_limits Ipv4 l = V4 l
ip_limits Ipv6 l = V6 l

-- the remaining networks
abbrev pub ip_subnets : IpSubnets → List IpNet
ip_subnets (V4 l) = map net.V4 (subnets Ipv4 l)
ip_subnets (V6 l) = map net.V6 (subnets Ipv6 l)

-- the iterator after the first network
abbrev pub after_first_of : IpSubnets → IpSubnets
after_first_of (V4 l) = V4 (after_first 32 l)
after_first_of (V6 l) = V6 (after_first 128 l)

-- the family of the iterator
abbrev pub cut_family : IpSubnets → Family
cut_family (V4 l) = Ipv4
cut_family (V6 l) = Ipv6

-- the limits of the iterator
abbrev pub cut_limits : IpSubnets → Limits
cut_limits (V4 l) = l
cut_limits (V6 l) = l

-- ordered by start, then by end, then by least length
abbrev pub IsLimitsBefore : Limits → Limits → Type 0
IsLimitsBefore a b = (a.start < b.start) ⊎ ((a.start ≡ b.start) × (a.end < b.end)) ⊎ ((a.start ≡ b.start) × (a.end ≡ b.end) × (a.shortest < b.shortest))

-- ordered by family, IPv4 first, then by limits
abbrev pub IsSubnetsBefore : IpSubnets → IpSubnets → Type 0
IsSubnetsBefore a b = (rank (cut_family a) < rank (cut_family b)) ⊎ ((rank (cut_family a) ≡ rank (cut_family b)) × IsLimitsBefore (cut_limits a) (cut_limits b))
