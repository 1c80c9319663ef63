use Rattle.std.proofs.Common.{arith}
use Rattle.std.proofs.lemmas.Result.{err_from_is_err_and}
use Rattle.route_laws.specs.LeastTables.{routes_for}
use Rattle.route_feed.proofs.FollowThen.{shorten_stopped, shorten_wants, shorten_ended, shorten_known}
use Rattle.route_feed.proofs.runs.shorten.Goals as goal

pub returns-in_err-follower-clause-ends : goal.returns-in_err-follower-clause-ends
returns-in_err-follower-clause-ends g c =
    let p = err_from_is_err_and c.from_residual.result c.from_residual.ensures.1 in
    rw (p.1, p.2) (shorten_stopped g.R.Read.remaining g.W.Write.contents c.args.reader.now c.follow_all.new.reader c.args.writer.now c.in_err-follower.field-0.0 c.follow_all.new.writer c.in_err-follower.ensures.reaches)

pub returns-in_err-routes-clause-ends : goal.returns-in_err-routes-clause-ends
returns-in_err-routes-clause-ends g c =
    let p = err_from_is_err_and c.from_residual-in_err-routes.result c.from_residual-in_err-routes.ensures.1 in
    rw (p.1, p.2) (shorten_wants g.R.Read.remaining g.W.Write.contents c.args.reader.now c.follow_all.new.reader c.args.writer.now c.in_ok-follower.follower c.follow_all.new.writer c.in_ok-follower.ensures.reaches c.in_err-routes.field-0.0 c.in_err-routes.ensures.memory)

pub write_routes-requires-clause-counts : goal.write_routes-requires-clause-counts
write_routes-requires-clause-counts g c = rw (c.in_ok-follower.ensures.reaches.1) (omega (arith, c.requires.1))

pub returns-clause-ends : goal.returns-clause-ends
returns-clause-ends g c =
    shorten_ended g.R.Read.remaining g.W.Write.contents c.args.reader.now c.follow_all.new.reader c.args.writer.now c.in_ok-follower.follower c.follow_all.new.writer c.in_ok-follower.ensures.reaches
    c.write_routes.new.writer (routes_for c.in_ok-routes.routes) c.write_routes.result c.in_ok-routes.ensures.least c.write_routes.ensures

pub returns-clause-known : goal.returns-clause-known
returns-clause-known g c = shorten_known g.R.Read.remaining g.W.Write.contents c.args.reader.now c.follow_all.new.reader c.args.writer.now c.write_routes.new.writer c.write_routes.result (returns-clause-ends g c)
