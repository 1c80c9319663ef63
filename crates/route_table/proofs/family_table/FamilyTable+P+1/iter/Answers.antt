use Rattle.std.proofs.Common.{◌∙◌}
use Rattle.route_table.proofs.Searches.{all_keys, all_routes}
use Rattle.route_table.proofs.family_table.FamilyTable+P+1.iter.Goals as goal

pub new-requires : goal.new-requires
new-requires g c = all_keys _ _ c.self.invariant.0 _ c.iter.ensures

pub returns : goal.returns
returns g c = c.new.ensures ∙ all_routes _ _ _ c.self.view_is _ c.iter.ensures
