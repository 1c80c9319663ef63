use Rattle.route_table.proofs.FlatRuns.{flat_of_table, seen_alone}
use Rattle.route_table.proofs.flat.RouteTable.flat.Goals as goal

pub new-requires : goal.new-requires
new-requires c = seen_alone c.sides-v4.ensures

pub returns : goal.returns
returns c = flat_of_table _ c.sides-v4.ensures c.new.ensures
