use Rattle.route_table.proofs.FamilyTables.{adds_seen, tables_seen}
use Rattle.route_table.proofs.table.RouteTable.add_choice.Goals as goal

pub returns-in-V4 : goal.returns-in-V4
returns-in-V4 c = record {
  adds = adds_seen c.self.invariant c.self.view_is c.in-V4.is c.add.ensures.side c.add.ensures.adds;
  tables = tables_seen c.self.invariant c.self.view_is c.in-V4.is c.add.ensures.side;
}

pub returns-in-V6 : goal.returns-in-V6
returns-in-V6 c = record {
  adds = adds_seen c.self.invariant c.self.view_is c.in-V6.is c.add-in-V6.ensures.side c.add-in-V6.ensures.adds;
  tables = tables_seen c.self.invariant c.self.view_is c.in-V6.is c.add-in-V6.ensures.side;
}
