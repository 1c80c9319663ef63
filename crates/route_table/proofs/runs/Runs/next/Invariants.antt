use Rattle.std.proofs.Common.{◌≡◌, ℕ}
use Rattle.route_table.specs.InnerRunning.{AreRuns, changes_left, hops_left}
use Rattle.route_table.proofs.runs.Runs.next.Given as goal

-- what was passed ended no run
abbrev pub invariant-step : goal.invariant-step
invariant-step g l = AreRuns l.self × (l.self.end ≡ l.initial.self.end) × ((x : ℕ) → hops_left l.initial.self x ≡ hops_left l.self x)

abbrev pub decreases-step : goal.decreases-step
decreases-step g l = changes_left l.self
