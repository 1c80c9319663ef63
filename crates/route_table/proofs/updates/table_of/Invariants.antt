use Rattle.std.proofs.Common.{◌≡◌, [], take}
use Rattle.route_laws.specs.LeastTables.{routes_for}
use Rattle.route_laws.specs.Networks.{routes_of}
use Rattle.route_laws.specs.Painted.{AreChanges}
use Rattle.route_table.specs.InnerUpdates.{overwritten_all}
use Rattle.route_table.proofs.updates.table_of.Given as goal

-- the table is that of the changes before this one
abbrev pub invariant-loop-net : goal.invariant-loop-net
invariant-loop-net l = (routes_of l.table ≡ overwritten_all [] (routes_for (take l.net-index l.changes))) × AreChanges (routes_for (take l.net-index l.changes))
