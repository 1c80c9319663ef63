use Rattle.route_table.proofs.FamilyTables.{removes_seen, tables_seen}
use Rattle.route_table.proofs.table.RouteTable.remove_choice.Goals as goal

pub returns-in-V4 : goal.returns-in-V4
returns-in-V4 c = record {
  removes = removes_seen c.self.invariant c.self.view_is c.in-V4.is c.remove.ensures.side c.remove.ensures.removes;
  tables = tables_seen c.self.invariant c.self.view_is c.in-V4.is c.remove.ensures.side;
}

pub returns-in-V6 : goal.returns-in-V6
returns-in-V6 c = record {
  removes = removes_seen c.self.invariant c.self.view_is c.in-V6.is c.remove-in-V6.ensures.side c.remove-in-V6.ensures.removes;
  tables = tables_seen c.self.invariant c.self.view_is c.in-V6.is c.remove-in-V6.ensures.side;
}
