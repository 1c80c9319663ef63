use Rattle.route_laws.specs.Networks.{routes_of}
use Rattle.route_laws.specs.Tables.{hop_at}
use Rattle.route_table.proofs.least.RouteTable.least.Goals as goal

pub least_of-requires : goal.least_of-requires
least_of-requires c = (hop_at (routes_of c.args.self.now), c.flat.ensures.flat)
