-- The blocks of one hop number, from the addresses that the routes with this number govern.
use Rattle.std.specs.Prelude.{◌≡◌, ◌↔◌, ◌⊎◌, ℕ, List, Some, Any, map}
use Rattle.ipnet_addr.specs.Addresses.{Address, IsAddress}
use Rattle.ipnet_blocks.specs.Aggregated.{InSome}
use Rattle.ipnet.specs.IpNets.{block}
use Rattle.ipnet.specs.declared.ip_net.IpNet.{IpNet}
use Rattle.route_choices.specs.Hops.{number_of}
use Rattle.route_laws.specs.Tables.{Route, Governed}

-- the route has this number and governs the address
abbrev pub Owns : List Route → ℕ → Address → Route → Type 0
Owns M k x r = (number_of r.hop ≡ Some k) × Governed M r.block x

-- one of the routes does
abbrev pub IsOwned : List Route → ℕ → List Route → Address → Type 0
IsOwned M k rs x = Any (Owns M k x) rs

-- the addresses of the networks are those of the earlier networks and those of the set
abbrev pub GrowsBy : List IpNet → (Address → Type 0) → List IpNet → Type 0
GrowsBy ns S ms = (x : Address) → IsAddress x → InSome (map block ms) x ↔ (InSome (map block ns) x ⊎ S x)
