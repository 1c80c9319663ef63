use Rattle.route_feed.proofs.AnsweredChanges.{changes_have_one_hop}
use Rattle.route_feed.proofs.PrintedLines.{split_is_lines}
use Rattle.route_feed.proofs.laws.meanings.Goals as goal

pub returns : goal.returns
returns c = record { changes = changes_have_one_hop; split = split_is_lines }
