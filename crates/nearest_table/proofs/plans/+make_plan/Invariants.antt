use Rattle.std.proofs.Common.{◌-◌, length}
use Rattle.nearest_table.proofs.plans.+make_plan.Given as goal

abbrev pub decreases-make_plan : goal.decreases-make_plan
decreases-make_plan g l = g.I.Table.width - length l.block.now
