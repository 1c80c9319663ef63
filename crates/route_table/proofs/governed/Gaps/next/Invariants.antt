use Rattle.std.proofs.Common.{◌≡◌, length}
use Rattle.route_table.specs.InnerGoverning.{AreGaps, gaps_left}
use Rattle.route_table.proofs.governed.Gaps.next.Given as goal

-- what was passed left no gap
abbrev pub invariant-step : goal.invariant-step
invariant-step l = AreGaps l.self × (l.self.net ≡ l.initial.self.net) × (l.self.end ≡ l.initial.self.end) × (gaps_left l.initial.self ≡ gaps_left l.self)

abbrev pub decreases-step : goal.decreases-step
decreases-step l = length l.self.inside
