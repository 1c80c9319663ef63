use Rattle.std.proofs.Common.{◌∙◌}
use Rattle.route_table.proofs.Searches.{count_is}
use Rattle.route_table.proofs.family_table.FamilyTable.count.Goals as goal

pub returns : goal.returns
returns g c = c.len.ensures ∙ count_is _ _ c.self.invariant.0 _ c.self.view_is
