use Rattle.std.proofs.Common.{◌∙◌, arith}
use Rattle.route_table.proofs.Searches.{walked, listed_keys}
use Rattle.route_table.proofs.family_table.FamilyTable+P+8.onwards.Goals as goal

pub iter_from-requires : goal.iter_from-requires
iter_from-requires g c = (omega arith, g.met.P.FamilyNet.always_fits c.args.net)

pub new-requires : goal.new-requires
new-requires g c = listed_keys _ _ c.self.invariant.0 _ _ c.iter_from.ensures

pub returns : goal.returns
returns g c = c.new.ensures ∙ walked _ c.requires _ c.self.invariant.0 _ c.self.view_is _ (g.met.P.FamilyNet.bits_are c.args.net) _ c.args.inclusive c.iter_from.ensures
