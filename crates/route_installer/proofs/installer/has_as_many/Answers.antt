use Rattle.std.proofs.Common.{arith}
use Rattle.std.proofs.lemmas.Bool.Decides.{nat_tests}
use Rattle.route_laws.specs.Networks.{routes_of}
use Rattle.route_installer.proofs.TakesNote.{counts_all}
use Rattle.route_installer.proofs.installer.has_as_many.Goals as goal

pub returns-then-v4-list-clause-same : goal.returns-then-v4-list-clause-same
returns-then-v4-list-clause-same c = grind (arith, nat_tests, counts_all (routes_of c.args.table.now), c.count-v4.ensures.counts)

pub returns-then-v4-list-clause-other : goal.returns-then-v4-list-clause-other
returns-then-v4-list-clause-other c = grind (arith, nat_tests, counts_all (routes_of c.args.table.now), c.count-v4.ensures.counts)

pub returns-else-v4-list-clause-other : goal.returns-else-v4-list-clause-other
returns-else-v4-list-clause-other c = grind (arith, nat_tests, counts_all (routes_of c.args.table.now), c.count-v4.ensures.counts)
