use Rattle.std.proofs.Common.{◌∙◌, ap, option_map}
use Rattle.route_laws.specs.Tables.{item_of}
use Rattle.route_table.proofs.FamilyTables.{seen_table, match_seen}
use Rattle.route_table.proofs.table.Table.longest.Goals as goal

pub returns-in-V4 : goal.returns-in-V4
returns-in-V4 g c = record {
  found = c.get.ensures ∙ ap (option_map item_of) (match_seen c.self.invariant c.self.view_is c.in-V4.is);
  table = seen_table _ _ _ c.self.invariant c.self.view_is;
}

pub returns-in-V6 : goal.returns-in-V6
returns-in-V6 g c = record {
  found = c.get-in-V6.ensures ∙ ap (option_map item_of) (match_seen c.self.invariant c.self.view_is c.in-V6.is);
  table = seen_table _ _ _ c.self.invariant c.self.view_is;
}
