use Rattle.std.proofs.Common.{◌≡◌, ◌∙◌, ◌-◌, ◌<◌, Some, length, take, ap, arith}
use Rattle.route_choices.specs.Hops.{number_of}
use Rattle.route_table.proofs.Asked.{none_around, one_around}
use Rattle.route_table.proofs.searched.FamilyTable1Table.around.Goals as goal

pub returns-in_err-choices : goal.returns-in_err-choices
returns-in_err-choices g c =
    let s = c.args.block.now in
    let l : c.in_ok-len.len ≡ length s - 1 = omega (arith, c.in_ok-len.ensures, c.len.ensures) in
    let some : 0 < length s = omega (arith, c.in_ok-len.ensures, c.len.ensures) in
    let up = c.truncated-parent.ensures.bits ∙ (λ i. take (l i) (c.prefix_of.ensures.bits i)) in
    c.from_residual-in_err-choices.ensures ∙ none_around g.P.FamilyNet.family _ _ c.self.view_is s c.self.invariant.0 c.requires some _ up c.in_err-choices.ensures

pub returns : goal.returns
returns g c =
    let s = c.args.block.now in
    let l : c.in_ok-len.len ≡ length s - 1 = omega (arith, c.in_ok-len.ensures, c.len.ensures) in
    let some : 0 < length s = omega (arith, c.in_ok-len.ensures, c.len.ensures) in
    let up = c.truncated-parent.ensures.bits ∙ (λ i. take (l i) (c.prefix_of.ensures.bits i)) in
    ap Some (c.number.ensures.number ∙ (λ i. number_of ((c.best-hop.ensures i).0)))
    ∙ one_around g.P.FamilyNet.family _ _ c.self.view_is s c.self.invariant.0 c.requires some _ up c.in_ok-choices.field-0-0 c.in_ok-choices.choices.now c.in_ok-choices.ensures
