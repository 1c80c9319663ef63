-- The remaining operations between two tables.
use Rattle.std.specs.Prelude.{◌≡◌, All, List, [], ◌∷◌, ◌++◌, Option, MatchOption, reverse}
use Rattle.ipnet_blocks.specs.Networks.{IsTruncated}
use Rattle.ipnet.specs.IpNets.{block, family, parts, network_at}
use Rattle.ipnet.specs.declared.ip_net.IpNet.{IpNet}
use Rattle.route_choices.specs.Choices.{default_preference}
use Rattle.route_choices.specs.declared.hop.Hop.{Hop}
use Rattle.route_laws.specs.LeastTables.{routes_for}
use Rattle.route_laws.specs.Networks.{routes_of}
use Rattle.route_laws.specs.Operations.{Operation, Remove, installs, missing, removes, surplus}
use Rattle.route_laws.specs.Tables.{Route, IsTable, route_of}
use Rattle.route_table.specs.declared.between.Installs.{Installs}
use Rattle.route_table.specs.declared.between.Removes.{Removes}

-- networks without host bits, each with a hop, that form a table
pub record AreComing (list : List (IpNet × Hop)) : Type 0 where
  pub table : IsTable (routes_for list)
  pub truncated : All (λ p. IsTruncated (family p.0) (parts p.0)) list

-- the routes that are left to install
abbrev pub installs_left : Installs → List Route
installs_left a = reverse (missing (routes_of a.table.now) (routes_for a.coming.now))

-- the first route was returned, its network without host bits, or none was left
abbrev pub GivesInstall : List Route → Option (IpNet × Hop) → List Route → Type 0
GivesInstall rs item left = MatchOption item ((rs ≡ []) × (left ≡ [])) (λ p. (rs ≡ route_of p.0 p.1 default_preference ∷ left) × (p.0 ≡ network_at (block p.0)))

-- the routes that are left, of both families
abbrev pub routes_left : Removes → List Route
routes_left a = a.v4 ++ a.v6

-- the routes that are left are a table
pub record AreRemoves (a : Removes) : Type 0 where
  pub coming : AreComing a.coming.now
  pub routes : IsTable (routes_left a)

-- the removals that are left
abbrev pub removes_left : Removes → List Operation
removes_left a = removes (surplus (routes_left a) (routes_for a.coming.now))

-- the first network was returned, without host bits, or none was left
abbrev pub GivesRemove : List Operation → Option IpNet → List Operation → Type 0
GivesRemove os item left = MatchOption item ((os ≡ []) × (left ≡ [])) (λ n. (os ≡ Remove (block n) ∷ left) × (n ≡ network_at (block n)))

-- all operations that are left
abbrev pub operations_left : Installs → Removes → List Operation
operations_left i r = installs (installs_left i) ++ removes_left r
