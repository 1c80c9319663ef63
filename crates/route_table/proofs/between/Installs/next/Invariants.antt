use Rattle.std.proofs.Common.{◌≡◌, length}
use Rattle.route_table.specs.InnerBetween.{AreComing, installs_left}
use Rattle.route_table.proofs.between.Installs.next.Given as goal

-- what was passed is there already
abbrev pub invariant-loop-net : goal.invariant-loop-net
invariant-loop-net l = AreComing l.self.coming.now × (l.self.table ≡ l.initial.self.table) × (installs_left l.self ≡ installs_left l.initial.self)

abbrev pub decreases-loop-net : goal.decreases-loop-net
decreases-loop-net l = length l.self.coming.now
