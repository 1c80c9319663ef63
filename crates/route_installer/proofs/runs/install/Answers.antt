use Rattle.std.proofs.Common.{Ok}
use Rattle.std.proofs.lemmas.Result.{err_from_is_err_and}
use Rattle.route_installer.proofs.Installed.{install_ended, install_known, install_stopped}
use Rattle.route_installer.proofs.runs.install.Goals as goal

pub returns-in_err-installer-clause-ends : goal.returns-in_err-installer-clause-ends
returns-in_err-installer-clause-ends g c = let ok = c.in_err-installer.ensures.ok in absurd (cc)

pub returns-in_err-run-clause-ends : goal.returns-in_err-run-clause-ends
returns-in_err-run-clause-ends g c =
    let p = err_from_is_err_and c.from_residual-in_err-run.result c.from_residual-in_err-run.ensures.1 in
    let runs = rw c.in_ok-installer.ensures.state at c.in_err-run.ensures.runs in
    rw (p.1, p.2)
    (install_stopped g.R.Read.remaining g.W.Write.contents c.args.reader.now c.run.new.reader c.args.writer.now c.run.new.writer
    c.run.new.sink c.in_err-run.field-0.0 runs)

pub returns-clause-ends : goal.returns-clause-ends
returns-clause-ends g c =
    let runs = rw c.in_ok-installer.ensures.state at c.in_ok-run.ensures.runs in
    install_ended g.R.Read.remaining g.W.Write.contents c.args.reader.now c.run.new.reader c.args.writer.now c.run.new.writer
    c.run.new.sink c.in_ok-run.field-0 runs

pub returns-clause-known : goal.returns-clause-known
returns-clause-known g c = install_known g.R.Read.remaining g.W.Write.contents c.args.reader.now c.run.new.reader c.args.writer.now c.run.new.writer (Ok tt) (returns-clause-ends g c)
