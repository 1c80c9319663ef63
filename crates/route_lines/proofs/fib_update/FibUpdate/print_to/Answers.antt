use Rattle.std.proofs.Common.{rules}
use Rattle.route_lines.specs.Texts.{update_text}
use Rattle.route_lines.proofs.Printed.{printed}
use Rattle.route_lines.proofs.Updates.{prints, updates}
use Rattle.route_lines.proofs.fib_update.FibUpdate.print_to.Goals as goal

pub returns : goal.returns
returns c = printed update_text _ _ updates (prints _ c.requires c.print_words.ensures.words) (search rules) (search rules)
