use Rattle.std.proofs.Common.{◌≡◌}
use Rattle.trie_core.proofs.walk.FrameWalkIterator.next.Given as goal

-- what was passed held no entry
abbrev pub invariant-step : goal.invariant-step
invariant-step g l = l.self.0 ≡ l.initial.self.0

abbrev pub decreases-step : goal.decreases-step
decreases-step g l = l.self.1
