use Rattle.std.proofs.lemmas.Result.{IfOk-weaker}
use Rattle.nearest_table.proofs.Stays.{fork_halves}
use Rattle.nearest_table.proofs.plans.join.Goals as goal

pub returns-in-None : goal.returns-in-None
returns-in-None c = IfOk-weaker c.fork.result _ _ (fork_halves c.args.low c.args.high) c.fork.ensures
