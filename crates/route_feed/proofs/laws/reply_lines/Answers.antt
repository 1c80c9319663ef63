use Rattle.route_feed.proofs.Beginnings.{beginnings_are_lines, commands_are_in_range, lines_agree}
use Rattle.route_feed.proofs.laws.reply_lines.Goals as goal

pub returns : goal.returns
returns c = record { hops = lines_agree; commands = commands_are_in_range; written = beginnings_are_lines }
