use Rattle.std.proofs.Common.{ap}
use Rattle.std.proofs.lemmas.Result.{on_ok_weaker}
use Rattle.least_table.specs.InnerSteps.{Halves}
use Rattle.least_table.proofs.Steps.{grown}
use Rattle.least_table.proofs.plan.Steps.push_set.Goals as goal

pub returns : goal.returns
returns c = on_ok_weaker c.push-2.result (λ added. grown c.args.self.now _ _ _ added c.in_ok-at.ensures.kept c.requires c.in_ok-at.ensures.here.0 (ap Halves c.in_ok-at.ensures.here.1)) c.push-2.ensures
