use Rattle.std.proofs.Common.{◌∙◌}
use Rattle.route_table.proofs.RunSteps.{given_later}
use Rattle.route_table.proofs.runs.Runs.next.Goals as goal

pub returns-in-Run-clause-run : goal.returns-in-Run-clause-run
returns-in-Run-clause-run g c = given_later c.args.self.now c.step.self c.step-in-step.new.self c.in-Run.run' c.step.invariant.2 c.step.invariant.1 c.in-Run.ensures.step

pub step-preserved : goal.step-preserved
step-preserved g c = (c.in-Passed.ensures.runs, c.in-Passed.ensures.end ∙ c.step.invariant.1, λ x. c.step.invariant.2 x ∙ c.in-Passed.ensures.step.0 x)
