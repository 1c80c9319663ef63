use Rattle.route_table.proofs.FamilyTables.{leaf_at}
use Rattle.route_table.proofs.family_table.FamilyTable.is_leaf.Goals as goal

pub is_leaf-requires : goal.is_leaf-requires
is_leaf-requires g c = g.met.P.FamilyNet.always_fits c.args.net

pub returns : goal.returns
returns g c =
    let m = leaf_at _ c.requires _ c.self.invariant.0 _ c.self.view_is _ (g.met.P.FamilyNet.bits_are c.args.net) in
    let h = c.is_leaf.ensures.tidy c.self.invariant.1 in
    (λ t. m.0 (h.0 t), λ l. h.1 (m.1 l))
