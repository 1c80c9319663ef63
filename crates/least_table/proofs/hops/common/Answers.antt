use Rattle.std.proofs.Common.{◌∙◌, sym, rules}
use Rattle.least_table.proofs.Sets.{step_common_low, step_common_high}
use Rattle.least_table.proofs.hops.common.Goals as goal

pub loop-a-preserved-then-is_less : goal.loop-a-preserved-then-is_less
loop-a-preserved-then-is_less c = step_common_low _ _ _ c.loop-a.a.now c.loop-a.b.now (search rules) (search rules) (sym c.is_less.ensures ∙ c.if-is_less.true) c.loop-a.invariant

pub loop-a-preserved-then-is_less-2 : goal.loop-a-preserved-then-is_less-2
loop-a-preserved-then-is_less-2 c = step_common_high _ _ _ c.loop-a.a.now c.loop-a.b.now (search rules) (search rules) (sym c.is_less-else-is_less.ensures ∙ c.if-is_less-2.true) c.loop-a.invariant
