use Rattle.std.proofs.Common.{◌∙◌, ap, take_all, arith}
use Rattle.route_choices.specs.Choices.{default_preference}
use Rattle.route_laws.specs.LeastTables.{routes_for}
use Rattle.route_laws.specs.Tables.{route_of, with_route}
use Rattle.route_table.proofs.BetweenSteps.{added_next}
use Rattle.route_table.proofs.hop_table.HopTable.from_routes.Goals as goal

pub loop-net-preserved : goal.loop-net-preserved
loop-net-preserved c = (
  c.in_ok-install.ensures.tables.1,
  c.in_ok-install.ensures.routes
      ∙ ap (λ M. with_route M (route_of c.loop-net-item.result.0 c.loop-net-item.result.1 default_preference)) c.loop-net.invariant.1
      ∙ added_next c.args.list.now c.loop-net.net-index c.loop-net-item.result c.requires (omega arith) c.loop-net-item.is,
)

pub returns-clause-routes : goal.returns-clause-routes
returns-clause-routes c = c.loop-net.invariant.1 ∙ ap routes_for (take_all c.loop-net.net-index c.args.list.now (omega arith))
