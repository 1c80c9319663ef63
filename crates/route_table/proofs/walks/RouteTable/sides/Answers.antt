use Rattle.route_table.proofs.FamilyTables.{both_families}
use Rattle.route_table.proofs.walks.RouteTable.sides.Goals as goal

pub returns : goal.returns
returns c = both_families _ _ _ c.self.invariant c.self.view_is _ _ c.iter.ensures c.iter-2.ensures
