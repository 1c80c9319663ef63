use Rattle.std.proofs.lemmas.Result.{IfErr-at_err, on_ok_weaker}
use Rattle.route_feed.specs.Following.{LacksMemory}
use Rattle.route_feed.specs.Streams.{WantsMemory}
use Rattle.route_feed.proofs.ReadLines.{of_replies, read_is, read_none}
use Rattle.route_feed.proofs.follower.Follower.read.Goals as goal

pub returns-in_default-clause-not_a_line : goal.returns-in_default-clause-not_a_line
returns-in_default-clause-not_a_line c = λ _. read_none of_replies c.args.text.now c.in_default.ensures

pub returns-clause-ok : goal.returns-clause-ok
returns-clause-ok c = on_ok_weaker c.take.result (λ taken. (c.in-Ok.line, read_is of_replies c.args.text.now c.in-Ok.line c.in-Ok.ensures, taken)) c.take.ensures.ok

pub returns-clause-memory : goal.returns-clause-memory
returns-clause-memory c = λ e. (c.in-Ok.line, read_is of_replies c.args.text.now c.in-Ok.line c.in-Ok.ensures, IfErr-at_err (λ _. WantsMemory c.args.self.now.pending c.in-Ok.line) e c.take.ensures.wanted)

pub returns-clause-lacks : goal.returns-clause-lacks
returns-clause-lacks c = λ e. (c.in-Ok.line, read_is of_replies c.args.text.now c.in-Ok.line c.in-Ok.ensures, IfErr-at_err (λ _. LacksMemory c.args.self.now c.take.new.self c.in-Ok.line) e c.take.ensures.lacks)
