use Rattle.std.proofs.Common.{rules}
use Rattle.route_lines.specs.Texts.{reply_text}
use Rattle.route_lines.proofs.Printed.{printed, prints}
use Rattle.route_lines.proofs.Replies.{replies}
use Rattle.route_lines.proofs.reply.Reply.print_to.Goals as goal

pub returns : goal.returns
returns g c = printed reply_text _ _ replies (prints _ c.requires.printable c.print_words.ensures.words) (search rules) (search rules)
