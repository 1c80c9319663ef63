use Rattle.std.proofs.lemmas.Result.{err_from_is_err_and}
use Rattle.route_feed.proofs.FollowThen.{reached, stopped}
use Rattle.route_feed.proofs.runs.follow_all.Goals as goal

pub returns-in_err-run-clause-reaches : goal.returns-in_err-run-clause-reaches
returns-in_err-run-clause-reaches g c =
    let p = err_from_is_err_and c.from_residual-in_err-run.result c.from_residual-in_err-run.ensures.1 in
    let runs = rw c.in_ok-follower.ensures.state at c.in_err-run.ensures.runs in
    rw (p.1, p.2) (stopped g.R.Read.remaining g.W.Write.contents c.args.reader.now c.run.new.reader c.args.writer.now c.run.new.writer c.run.new.sink c.in_err-run.field-0.0 runs)

pub returns-clause-reaches : goal.returns-clause-reaches
returns-clause-reaches g c =
    let runs = rw c.in_ok-follower.ensures.state at c.in_ok-run.ensures.runs in
    reached g.R.Read.remaining g.W.Write.contents c.args.reader.now c.run.new.reader c.args.writer.now c.run.new.writer c.run.new.sink c.in_ok-run.field-0 runs
