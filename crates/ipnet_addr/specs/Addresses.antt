-- Addresses of two families, as numbers.
use Rattle.std.specs.Prelude.{ℕ, ◌^◌, ◌<◌, Bool, ◌==◌}
use Rattle.std.specs.Net.Addr.{ipv4_bits, ipv6_bits}
use Rattle.std.specs.declared.net.ipv4_addr.Ipv4Addr.{Ipv4Addr}
use Rattle.std.specs.declared.net.ipv6_addr.Ipv6Addr.{Ipv6Addr}
use Rattle.std.specs.declared.net.ip_addr.IpAddr.{IpAddr}
use Rattle.std.specs.declared.net.ip_addr.IpAddr.TheVariants.{V4, V6}

-- the two families of addresses
pub data Family : Type 0 where
  Ipv4 Ipv6 : Family

-- the number of bits of an address
abbrev pub width : Family → ℕ
width Ipv4 = 32
width Ipv6 = 128

-- the rank of a family in the order: IPv4 before IPv6
abbrev pub rank : Family → ℕ
rank Ipv4 = 0
rank Ipv6 = 1

-- the families are the same
abbrev pub same_family : Family → Family → Bool
same_family f g = rank f == rank g

-- an address is a family and a number: its octets read as one number, the most significant first
pub record Address : Type 0 where
  pub family : Family
  pub number : ℕ

-- the number is in the range of the family
abbrev pub IsAddress : Address → Type 0
IsAddress x = x.number < 2 ^ width x.family

-- the address of an IPv4 address of std, whose number is its bits
abbrev pub ipv4_address : Ipv4Addr → Address
ipv4_address a = record { family = Ipv4; number = ipv4_bits a }

-- the address of an IPv6 address of std, whose number is its bits
abbrev pub ipv6_address : Ipv6Addr → Address
ipv6_address a = record { family = Ipv6; number = ipv6_bits a }

-- the address of one of either family
abbrev pub address_of : IpAddr → Address
address_of (V4 a) = ipv4_address a
address_of (V6 a) = ipv6_address a
