use Rattle.std.proofs.Common.{◌∙◌}
use Rattle.route_table.proofs.Searches.{all_keys, all_routes}
use Rattle.route_table.proofs.family_table.FamilyTable+P+1.into_routes.Goals as goal

pub new-requires-2 : goal.new-requires-2
new-requires-2 g c = all_keys _ _ c.self.invariant.0 _ (c.in_ok-walk.ensures.ok ∙ c.into_iter.ensures.into_iter_gives)

pub returns : goal.returns
returns g c = c.new-2.ensures ∙ all_routes _ _ _ c.self.view_is _ (c.in_ok-walk.ensures.ok ∙ c.into_iter.ensures.into_iter_gives)
