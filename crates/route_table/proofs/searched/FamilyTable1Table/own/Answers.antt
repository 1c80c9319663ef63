use Rattle.std.proofs.Common.{◌∙◌, Some, None, ap}
use Rattle.route_choices.specs.Hops.{number_of}
use Rattle.route_table.proofs.Asked.{own_found}
use Rattle.route_table.proofs.searched.FamilyTable1Table.own.Goals as goal

pub returns-in_err-choices : goal.returns-in_err-choices
returns-in_err-choices g c = c.from_residual.ensures ∙ own_found g.P.FamilyNet.family _ _ c.self.view_is c.args.block.now _ c.prefix_of.ensures.bits None c.in_err-choices.ensures

pub returns : goal.returns
returns g c =
    ap Some (c.number.ensures.number ∙ (λ i. number_of ((c.best-hop.ensures i).0)))
    ∙ own_found g.P.FamilyNet.family _ _ c.self.view_is c.args.block.now _ c.prefix_of.ensures.bits (Some c.in_ok-choices.choices.now) c.in_ok-choices.ensures
