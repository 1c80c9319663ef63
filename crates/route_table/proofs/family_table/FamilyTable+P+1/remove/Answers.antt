use Rattle.route_table.proofs.FamilyMap.{is_side}
use Rattle.route_table.proofs.Stores.{taken_is_stored, taken_side}
use Rattle.route_table.proofs.family_table.FamilyTable+P+1.remove.Goals as goal

pub remove-requires : goal.remove-requires
remove-requires g c = g.met.P.FamilyNet.always_fits c.args.net

pub invariant_of-self : goal.invariant_of-self
invariant_of-self g c = (
  taken_is_stored _ c.requires _ c.self.invariant.0 _ c.self.view_is _ _ (g.met.P.FamilyNet.bits_are c.args.net) c.remove.ensures.map,
  c.remove.ensures.tidy c.self.invariant.1,
  c.self.invariant.2,
  c.self.invariant.3,
)

pub returns : goal.returns
returns g c = record {
  networks = taken_side _ c.requires _ c.self.invariant.0 _ c.self.view_is _ _ (g.met.P.FamilyNet.bits_are c.args.net) c.remove.ensures.map;
  side = is_side _ _ (invariant_of-self g c).0;
}
