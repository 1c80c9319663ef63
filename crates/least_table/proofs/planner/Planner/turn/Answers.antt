use Rattle.std.proofs.Common.{arith, length, reverse, subst, sym}
use Rattle.std.proofs.Math.Facts.{Fits-of_lt}
use Rattle.least_table.specs.InnerPacked.{steps_in}
use Rattle.least_table.specs.InnerPlanners.{AreLowers}
use Rattle.least_table.proofs.Lowers.{Parts, parts, turned}
use Rattle.least_table.proofs.planner.Planner.turn.Goals as goal

pub overflow_add-depth : goal.overflow_add-depth
overflow_add-depth g c =
    let p = parts c.args.last.now c.args.path.now c.requires.before in
    Fits-of_lt (omega (arith, c.common-depth.ensures, p.short, c.requires.width, c.requires.short))

pub close-requires-clause-inside : goal.close-requires-clause-inside
close-requires-clause-inside g c =
    let p = parts c.args.last.now c.args.path.now c.requires.before in
    omega (arith, c.common-depth.ensures, p.short)

pub take_lower-planned-requires : goal.take_lower-planned-requires
take_lower-planned-requires g c =
    let h = c.in_ok-close.ensures c.requires.planned.0 c.requires.planned.1 in
    (h.before, h.plans.plan, h.plans.ends)

pub returns : goal.returns
returns g c = λ ps before.
    let h = c.in_ok-close.ensures ps before in
    let p = subst (Parts c.args.last.now c.args.path.now) (sym c.common-depth.ensures) (parts c.args.last.now c.args.path.now c.requires.before) in
    let held = c.take_lower-planned.ensures h.before h.plans.plan h.plans.ends in (
      subst (λ os. AreLowers g.P.R.Key.width (reverse os) c.args.path.now (length c.args.path.now) ps (steps_in c.take_lower-planned.new.self)) (sym c.in_ok-push.ensures.items)
          (turned g.P.R.Key.width c.args.last.now c.args.path.now c.common-depth.result c.close.new.self.lowers.items ps c.close.new.self.steps c.take_lower-planned.new.self c.take_lower-planned.result p h held.0),
      held.1,
    )
