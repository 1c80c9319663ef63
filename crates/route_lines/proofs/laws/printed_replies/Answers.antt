use Rattle.route_lines.proofs.PrintedReplies.{texts}
use Rattle.route_lines.proofs.laws.printed_replies.Goals as goal

pub returns : goal.returns
returns c = texts
