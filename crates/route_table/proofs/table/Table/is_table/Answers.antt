use Rattle.route_table.proofs.FamilyTables.{seen_is_table}
use Rattle.route_table.proofs.table.Table.is_table.Goals as goal

pub returns : goal.returns
returns g c = seen_is_table c.self.invariant c.self.view_is
