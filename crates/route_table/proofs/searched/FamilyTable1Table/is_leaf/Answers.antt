use Rattle.route_table.proofs.Asked.{leaf_found}
use Rattle.route_table.proofs.searched.FamilyTable1Table.is_leaf.Goals as goal

pub returns : goal.returns
returns g c =
    let m = leaf_found g.P.FamilyNet.family _ _ c.self.view_is c.args.block.now _ c.prefix_of.ensures.bits in
    let h = c.is_leaf.ensures.tidy c.self.invariant.1 in
    (λ t. m.0 (h.0 t), λ l. h.1 (m.1 l))
