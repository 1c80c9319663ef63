use Rattle.std.proofs.Common.{◌∙◌, sym, rules, subst}
use Rattle.least_table.specs.InnerRising.{AllLeft}
use Rattle.least_table.proofs.Sets.{tail, step_all_low, step_all_high}
use Rattle.least_table.proofs.hops.all.Goals as goal

pub loop-a-preserved-in_ok-push : goal.loop-a-preserved-in_ok-push
loop-a-preserved-in_ok-push c =
    subst (λ o. AllLeft c.args.low.now c.args.high.now o (tail c.loop-a.a.now) c.loop-a.b.now) (sym c.in_ok-push.ensures.items)
    (step_all_low _ _ _ c.loop-a.a.now c.loop-a.b.now (search rules) (search rules) (sym c.is_less.ensures ∙ c.if-is_less.true) c.loop-a.invariant)

pub loop-a-preserved-in_ok-push-2 : goal.loop-a-preserved-in_ok-push-2
loop-a-preserved-in_ok-push-2 c =
    subst (λ o. AllLeft c.args.low.now c.args.high.now o c.loop-a.a.now (tail c.loop-a.b.now)) (sym c.in_ok-push-2.ensures.items)
    (step_all_high _ _ _ c.loop-a.a.now c.loop-a.b.now (search rules) (search rules) (sym c.is_less-else-is_less.ensures ∙ c.if-is_less-2.true) c.loop-a.invariant)
