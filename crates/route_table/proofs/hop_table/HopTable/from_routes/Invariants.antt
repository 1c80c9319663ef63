use Rattle.std.proofs.Common.{◌≡◌, take}
use Rattle.route_laws.specs.LeastTables.{routes_for}
use Rattle.route_laws.specs.Networks.{IsStoredTable, routes_of}
use Rattle.route_table.proofs.hop_table.HopTable.from_routes.Given as goal

-- the routes before this one are stored
abbrev pub invariant-loop-net : goal.invariant-loop-net
invariant-loop-net l = IsStoredTable l.table × (routes_of l.table ≡ routes_for (take l.net-index l.list))
