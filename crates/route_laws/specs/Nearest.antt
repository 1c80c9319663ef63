-- The fewest operations that give each address a hop, and the tables that they lead to.
use Rattle.std.specs.Prelude.{◌≡◌, ℕ, ◌≤◌, ◌↔◌, List, [], Option, length}
use Rattle.ipnet_addr.specs.Addresses.{Address}
use Rattle.route_laws.specs.LeastTables.{HasHops, IsLeast}
use Rattle.route_laws.specs.Operations.{IsHitless, Operation, after_all, between}
use Rattle.route_laws.specs.Painted.{AreChanges, most_operations, painted_all}
use Rattle.route_laws.specs.Tables.{Route, IsTable, hop_at}

-- after these operations on M each address has the hop that h gives, and no shorter sequence of operations, on any blocks, does this
pub record IsFewestTo (M : List Route) (h : Address → Option ℕ) (os : List Operation) : Type 0 where
  pub hops : HasHops h (after_all M os)
  pub fewest : (L : List Operation) → HasHops h (after_all M L) → length os ≤ length L

-- N is a table with the hops h, and no table with these hops is fewer operations away from M
pub record IsNearest (M : List Route) (h : Address → Option ℕ) (N : List Route) : Type 0 where
  pub hops : HasHops h N
  pub nearest : (L : List Route) → HasHops h L → length (between M N) ≤ length (between M L)

-- the operations lead from M to a nearest table with its hops after these changes
pub record AreUpdates (M rs : List Route) (os : List Operation) : Type 0 where
  pub table : List Route
  pub nearest : IsNearest M (hop_at (painted_all M rs)) table
  pub operations : os ≡ between M table

-- the operations between a table and a nearest one are the fewest
abbrev pub NearestIsFewest : Type 0
NearestIsFewest = (M : List Route) (h : Address → Option ℕ) (N : List Route) → IsTable M → IsNearest M h N → IsFewestTo M h (between M N)

-- on the way each address changes its hop at most once
abbrev pub NearestIsHitless : Type 0
NearestIsHitless = (M : List Route) (h : Address → Option ℕ) (N : List Route) → IsTable M → IsNearest M h N → IsHitless M (between M N)

-- any fewest operations lead to a nearest table
abbrev pub FewestIsNearest : Type 0
FewestIsNearest = (M : List Route) (h : Address → Option ℕ) (os : List Operation) → IsTable M → IsFewestTo M h os → IsNearest M h (after_all M os)

-- The way to a nearest table with the hops after changes has at most one operation for each change, and one for each route strictly
-- inside its block.
abbrev pub NearestIsBounded : Type 0
NearestIsBounded = (M rs N : List Route) → IsTable M → AreChanges rs → IsNearest M (hop_at (painted_all M rs)) N → length (between M N) ≤ most_operations M rs

-- a table is least exactly if it is nearest to the empty table
abbrev pub LeastIsNearest : Type 0
LeastIsNearest = (h : Address → Option ℕ) (N : List Route) → IsLeast h N ↔ IsNearest [] h N

-- updates are the fewest operations that give each address its hop after the changes
abbrev pub UpdatesAreFewest : Type 0
UpdatesAreFewest = (M rs : List Route) (os : List Operation) → IsTable M → AreUpdates M rs os → IsFewestTo M (hop_at (painted_all M rs)) os

-- on the way each address changes its hop at most once
abbrev pub UpdatesAreHitless : Type 0
UpdatesAreHitless = (M rs : List Route) (os : List Operation) → IsTable M → AreUpdates M rs os → IsHitless M os

-- there is at most one update for each change, and one for each route strictly inside its block
abbrev pub UpdatesAreBounded : Type 0
UpdatesAreBounded = (M rs : List Route) (os : List Operation) → IsTable M → AreChanges rs → AreUpdates M rs os → length os ≤ most_operations M rs
