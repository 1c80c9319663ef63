use Rattle.std.proofs.Common.{◌≡◌}
use Rattle.route_laws.specs.Changes.{with_each}
use Rattle.embedder.proofs.table.rebuilt.Given as goal

abbrev pub invariant-loop-net : goal.invariant-loop-net
invariant-loop-net l = with_each l.empty l.net-iterator ≡ with_each l.initial.empty l.initial.net-iterator
