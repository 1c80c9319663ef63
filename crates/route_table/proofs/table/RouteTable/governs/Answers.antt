use Rattle.ipnet.specs.IpNets.{block}
use Rattle.route_laws.specs.Networks.{routes_of}
use Rattle.route_laws.proofs.Flats.{governed_bound}
use Rattle.route_table.proofs.Governings.{governed_in_part, part_is_inside, part_is_table}
use Rattle.route_table.proofs.table.RouteTable.governs.Goals as goal

pub new-requires-clause-table : goal.new-requires-clause-table
new-requires-clause-table c = part_is_table (routes_of c.args.self.now) c.inside.ensures.table (block c.args.net.now) c.requires _ c.inside.ensures.routes

pub new-requires-clause-inside : goal.new-requires-clause-inside
new-requires-clause-inside c = part_is_inside (routes_of c.args.self.now) c.inside.ensures.table (block c.args.net.now) c.requires _ c.inside.ensures.routes

pub returns-clause-maximal : goal.returns-clause-maximal
returns-clause-maximal c = governed_in_part (routes_of c.args.self.now) c.inside.ensures.table (block c.args.net.now) c.requires _ c.inside.ensures.routes _ c.new.ensures

pub returns-clause-bound : goal.returns-clause-bound
returns-clause-bound c = governed_bound (routes_of c.args.self.now) (block c.args.net.now) _ c.inside.ensures.table c.requires (returns-clause-maximal c)
