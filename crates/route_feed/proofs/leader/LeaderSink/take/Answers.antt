use Rattle.route_lines.specs.Lines.{as_line}
use Rattle.route_feed.specs.Lines.{command_in}
use Rattle.route_feed.proofs.LeadThen.{answer_counts}
use Rattle.route_feed.proofs.leader.LeaderSink.take.Goals as goal

pub returns-clause-others : goal.returns-clause-others
returns-clause-others g c = answer_counts g.W.Write.contents c.self.inside.table c.answer.new.table (command_in (as_line c.args.text)) c.args.writer.now c.answer.new.writer c.answer.result c.answer.ensures c.requires
