use Rattle.std.proofs.Common.{◌≡◌, ◌++◌}
use Rattle.route_table.proofs.least.LeastRoutes.list.Given as goal

abbrev pub invariant-loop-route : goal.invariant-loop-route
invariant-loop-route l = l.routes.items ++ l.route-iterator ≡ l.fn.self
