use Rattle.std.proofs.Common.{arith}
use Rattle.std.proofs.lemmas.Result.{err_from_is_err_and}
use Rattle.route_feed.proofs.FollowThen.{follow_ended, follow_known}
use Rattle.route_feed.proofs.runs.follow_then.Goals as goal

pub returns-in_err-follower-clause-ends : goal.returns-in_err-follower-clause-ends
returns-in_err-follower-clause-ends g c =
    let p = err_from_is_err_and c.from_residual.result c.from_residual.ensures.1 in
    rw (p.1, p.2) c.in_err-follower.ensures.reaches.1

pub reply-result-requires-clause-counts : goal.reply-result-requires-clause-counts
reply-result-requires-clause-counts g c = rw (c.in_ok-follower.ensures.reaches.1) (omega (arith, c.requires.1))

pub returns-clause-ends : goal.returns-clause-ends
returns-clause-ends g c =
    follow_ended g.R.Read.remaining g.W.Write.contents c.args.reader.now c.follow_all.new.reader c.args.writer.now c.in_ok-follower.follower c.follow_all.new.writer c.reply-result.new.writer c.pieces.result c.reply-result.result c.in_ok-follower.ensures.reaches c.pieces.ensures c.reply-result.ensures

pub returns-clause-known : goal.returns-clause-known
returns-clause-known g c = follow_known g.R.Read.remaining g.W.Write.contents c.args.reader.now c.follow_all.new.reader c.args.writer.now c.reply-result.new.writer c.reply-result.result (returns-clause-ends g c)
