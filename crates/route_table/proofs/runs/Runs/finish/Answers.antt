use Rattle.std.proofs.Common.{None, refl}
use Rattle.route_table.specs.declared.runs.Runs.{Runs}
use Rattle.route_table.proofs.RunSteps.{finish_none, finish_run}
use Rattle.route_table.proofs.runs.Runs.finish.Goals as goal

pub returns-in-Some-clause-step : goal.returns-in-Some-clause-step
returns-in-Some-clause-step g c =
    let v : Runs g.row.P.Denot g.row.P-R.Denot = record c.args.self.now { run = None } in
    finish_run c.args.self.now v c.requires.runs c.requires.done c.requires.done c.in-Some.run' c.in-Some.is refl

pub returns-in-None-clause-step : goal.returns-in-None-clause-step
returns-in-None-clause-step g c =
    let v : Runs g.row.P.Denot g.row.P-R.Denot = record c.args.self.now { run = None } in
    (finish_none c.args.self.now c.requires.done c.in-None.is, finish_none v c.requires.done refl)
