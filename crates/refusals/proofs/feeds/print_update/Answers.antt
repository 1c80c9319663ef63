use Rattle.route_lines.proofs.Updates.{printable_update}
use Rattle.refusals.proofs.feeds.print_update.Goals as goal

pub print-requires : goal.print-requires
print-requires c = printable_update _ _ c.in-Ok.ensures
