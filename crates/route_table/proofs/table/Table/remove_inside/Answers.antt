use Rattle.route_table.proofs.FamilyTables.{outside_seen, tables_seen}
use Rattle.route_table.proofs.table.Table.remove_inside.Goals as goal

pub returns-in-V4 : goal.returns-in-V4
returns-in-V4 g c = record {
  networks = outside_seen c.self.invariant c.self.view_is c.in-V4.is c.remove_inside.ensures.side c.remove_inside.ensures.networks;
  tables = tables_seen c.self.invariant c.self.view_is c.in-V4.is c.remove_inside.ensures.side;
}

pub returns-in-V6 : goal.returns-in-V6
returns-in-V6 g c = record {
  networks = outside_seen c.self.invariant c.self.view_is c.in-V6.is c.remove_inside-in-V6.ensures.side c.remove_inside-in-V6.ensures.networks;
  tables = tables_seen c.self.invariant c.self.view_is c.in-V6.is c.remove_inside-in-V6.ensures.side;
}
