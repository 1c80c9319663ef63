use Rattle.route_laws.specs.Networks.{routes_of}
use Rattle.route_laws.specs.Tables.{hop_at}
use Rattle.route_table.proofs.least.HopTable.into_least.Goals as goal

pub least_routes-requires : goal.least_routes-requires
least_routes-requires c = (hop_at (routes_of c.args.self), c.in_ok-flat.ensures.flat)

pub returns-clause-least : goal.returns-clause-least
returns-clause-least c = c.least_routes.ensures.least (hop_at (routes_of c.args.self)) c.in_ok-flat.ensures.flat
