-- Networks as bytes and as JSON values.
use Rattle.std.specs.Prelude.{◌≡◌, ℕ, List, [], ◌∷◌, ◌++◌}
use Rattle.std.specs.Int.{w32, w128, to_be_bytes}
use Rattle.serde_json.specs.Data.{Data, string}
use Rattle.ipnet_addr.specs.Addresses.{Ipv4, Ipv6}
use Rattle.ipnet_blocks.specs.Networks.{Network, IsNetwork}
use Rattle.ipnet.specs.IpNets.{family, parts}
use Rattle.ipnet.specs.declared.ip_net.IpNet.{IpNet}
use Rattle.ipnet.specs.declared.ip_net.IpNet.TheVariants.{V4, V6}

-- the four octets of the number, the most significant first, and then the length
abbrev pub ipv4_net_bytes : Network → List ℕ
ipv4_net_bytes n = to_be_bytes w32 n.number ++ n.len ∷ []

-- the sixteen octets of the number, the most significant first, and then the length
abbrev pub ipv6_net_bytes : Network → List ℕ
ipv6_net_bytes n = to_be_bytes w128 n.number ++ n.len ∷ []

-- a first byte for the family, 0 or 1, and then the bytes of the network
abbrev pub net_bytes : IpNet → List ℕ
net_bytes (V4 n) = 0 ∷ ipv4_net_bytes n
net_bytes (V6 n) = 1 ∷ ipv6_net_bytes n

-- the bytes are those of this network
abbrev pub HoldsIpv4 : List ℕ → Network → Type 0
HoldsIpv4 bytes n = (bytes ≡ ipv4_net_bytes n) × IsNetwork Ipv4 n

-- the bytes are those of this IPv6 network
abbrev pub HoldsIpv6 : List ℕ → Network → Type 0
HoldsIpv6 bytes n = (bytes ≡ ipv6_net_bytes n) × IsNetwork Ipv6 n

-- the bytes are those of this network of either family
abbrev pub Holds : List ℕ → IpNet → Type 0
Holds bytes n = (bytes ≡ net_bytes n) × IsNetwork (family n) (parts n)

-- the value is a string that spells the network, as `Reads` relates texts and networks
pub record IsStringOf {N : Type 0} (Reads : List ℕ → N → Type 0) (value : Data) (n : N) : Type 0 where
  pub text : List ℕ
  pub is : value ≡ string text
  pub reads : Reads text n
