use Rattle.route_lines.proofs.Updates.{printable_update}
use Rattle.tests_route_feed.proofs.tests.texts.printed_update.Goals as goal

pub print-requires : goal.print-requires
print-requires g c = printable_update _ _ c.in-Ok.ensures
