use Rattle.std.proofs.Common.{◌∙◌, sym}
use Rattle.route_table.proofs.Searches.{at_key}
use Rattle.route_table.proofs.family_table.FamilyTable+P+8.all.Goals as goal

pub get-requires : goal.get-requires
get-requires g c = g.met.P.FamilyNet.always_fits c.args.net

pub returns-in-Some : goal.returns-in-Some
returns-in-Some g c = c.all.ensures ∙ sym (at_key _ c.requires _ c.self.invariant.0 _ c.self.view_is _ (g.met.P.FamilyNet.bits_are c.args.net) _ c.in-Some.ensures)

pub returns-in-None : goal.returns-in-None
returns-in-None g c = c.none.ensures ∙ sym (at_key _ c.requires _ c.self.invariant.0 _ c.self.view_is _ (g.met.P.FamilyNet.bits_are c.args.net) _ c.in-None.ensures)
