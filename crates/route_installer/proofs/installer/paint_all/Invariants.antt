use Rattle.std.proofs.Common.{◌≡◌, take}
use Rattle.route_laws.specs.LeastTables.{routes_for}
use Rattle.route_laws.specs.Networks.{routes_of}
use Rattle.route_laws.specs.Painted.{painted_all}
use Rattle.route_installer.proofs.installer.paint_all.Given as goal

abbrev pub invariant-loop-change : goal.invariant-loop-change
invariant-loop-change l = routes_of l.table ≡ painted_all (routes_of l.fn.table) (routes_for (take l.change-index l.changes))
