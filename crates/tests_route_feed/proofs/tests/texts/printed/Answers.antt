use Rattle.route_lines.proofs.Printed.{printable}
use Rattle.tests_route_feed.proofs.tests.texts.printed.Goals as goal

pub print-requires : goal.print-requires
print-requires g c = printable _ _ c.in-Ok.ensures
