-- The tables with the fewest routes.
use Rattle.std.specs.Prelude.{◌≡◌, ◌≤◌, ℕ, List, Option, length, map}
use Rattle.ipnet_addr.specs.Addresses.{Address, IsAddress}
use Rattle.ipnet.specs.declared.ip_net.IpNet.{IpNet}
use Rattle.route_choices.specs.Choices.{default_preference}
use Rattle.route_choices.specs.declared.hop.Hop.{Hop}
use Rattle.route_laws.specs.Tables.{Route, IsTable, hop_at, route_of}

-- N is a table in which each address has this hop
pub record HasHops (h : Address → Option ℕ) (N : List Route) : Type 0 where
  pub table : IsTable N
  pub same : (x : Address) → IsAddress x → hop_at N x ≡ h x

-- and no such table has fewer routes
pub record IsLeast (h : Address → Option ℕ) (N : List Route) : Type 0 where
  pub hops : HasHops h N
  pub fewest : (L : List Route) → HasHops h L → length N ≤ length L

-- networks with a hop each, as routes with the default preference
abbrev pub routes_for : List (IpNet × Hop) → List Route
routes_for = map (λ p. route_of p.0 p.1 default_preference)
