-- Ranges of addresses of either family.
use Rattle.std.specs.Prelude.{◌≡◌, ◌<◌, ◌⊎◌, List, map}
use Rattle.ipnet_addr.specs.Addresses.{Family, Ipv4, Ipv6, rank, Address}
use Rattle.ipnet_addr.specs.Ranges.{Ends, IsEndsBefore, numbers}
use Rattle.ipnet_addr.specs.declared.ip_range.IpAddrRange.{IpAddrRange}
use Rattle.ipnet_addr.specs.declared.ip_range.IpAddrRange.TheVariants.{V4, V6}

-- the family of the range
abbrev pub family_of : IpAddrRange → Family
family_of (V4 e) = Ipv4
family_of (V6 e) = Ipv6

-- the two ends of the range
abbrev pub ends_of : IpAddrRange → Ends
ends_of (V4 e) = e
ends_of (V6 e) = e

-- the addresses from start to end, none if start is above end
abbrev pub addresses : IpAddrRange → List Address
addresses r = map (λ n. record { family = family_of r; number = n }) (numbers (ends_of r))

-- the range of the same family whose ends are changed by f
abbrev pub with_ends : (Ends → Ends) → IpAddrRange → IpAddrRange
with_ends f (V4 e) = V4 (f e)
with_ends f (V6 e) = V6 (f e)

-- IPv4 before IPv6, then by the ends
abbrev pub IsRangeBefore : IpAddrRange → IpAddrRange → Type 0
IsRangeBefore a b = (rank (family_of a) < rank (family_of b)) ⊎ ((rank (family_of a) ≡ rank (family_of b)) × IsEndsBefore (ends_of a) (ends_of b))
