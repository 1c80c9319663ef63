use Rattle.std.proofs.Common.{◌-◌, length}
use Rattle.least_table.proofs.plan.Steps.+take.Given as goal

abbrev pub decreases-take : goal.decreases-take
decreases-take g l = g.P.R.Key.width - length l.path.now
