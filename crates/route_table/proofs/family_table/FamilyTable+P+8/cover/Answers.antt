use Rattle.std.proofs.Common.{◌∙◌}
use Rattle.route_table.proofs.Searches.{covered, listed_keys}
use Rattle.route_table.proofs.family_table.FamilyTable+P+8.cover.Goals as goal

pub cover-requires : goal.cover-requires
cover-requires g c = g.met.P.FamilyNet.always_fits c.args.net

pub new-requires : goal.new-requires
new-requires g c = listed_keys _ _ c.self.invariant.0 _ _ c.cover.ensures

pub returns : goal.returns
returns g c = c.new.ensures ∙ covered _ c.requires _ c.self.invariant.0 _ c.self.view_is _ (g.met.P.FamilyNet.bits_are c.args.net) _ c.cover.ensures
