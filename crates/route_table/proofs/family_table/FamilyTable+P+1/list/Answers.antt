use Rattle.std.proofs.Common.{◌∙◌, arith}
use Rattle.route_table.proofs.FamilyMap.{seen_side}
use Rattle.route_table.proofs.Searches.{listed, listed_keys}
use Rattle.route_table.proofs.family_table.FamilyTable+P+1.list.Goals as goal

pub children-requires : goal.children-requires
children-requires g c = (omega arith, g.met.P.FamilyNet.always_fits c.args.net)

pub new-requires : goal.new-requires
new-requires g c = listed_keys _ _ c.self.invariant.0 _ _ c.children.ensures

pub returns : goal.returns
returns g c = record {
  routes = c.new.ensures ∙ listed _ c.requires _ c.self.invariant.0 _ c.self.view_is _ (g.met.P.FamilyNet.bits_are c.args.net) _ c.children.ensures;
  side = seen_side _ _ c.self.invariant.0 _ c.self.view_is;
}
