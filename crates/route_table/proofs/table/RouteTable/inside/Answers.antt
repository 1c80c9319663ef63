use Rattle.std.proofs.Common.{◌∙◌}
use Rattle.route_table.proofs.FamilyTables.{inside_seen}
use Rattle.route_table.proofs.table.RouteTable.inside.Goals as goal

pub returns-in-V4 : goal.returns-in-V4
returns-in-V4 c = inside_seen c.self.invariant c.self.view_is c.in-V4.is _ (c.v4.ensures ∙ c.list.ensures)

pub returns-in-V6 : goal.returns-in-V6
returns-in-V6 c = inside_seen c.self.invariant c.self.view_is c.in-V6.is _ (c.v6.ensures ∙ c.list-in-V6.ensures)
