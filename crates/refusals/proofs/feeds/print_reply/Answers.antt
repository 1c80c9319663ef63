use Rattle.route_lines.proofs.Printed.{printable}
use Rattle.refusals.proofs.feeds.print_reply.Goals as goal

pub print-requires : goal.print-requires
print-requires c = printable _ _ c.in-Ok.ensures
