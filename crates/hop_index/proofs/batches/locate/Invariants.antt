use Rattle.std.proofs.Common.{◌≡◌, ℕ, ◌<◌, get_or}
use Rattle.hop_index.specs.InnerNodes.{cell_of_address}
use Rattle.hop_index.proofs.batches.locate.Given as goal

abbrev pub invariant-loop-place : goal.invariant-loop-place
invariant-loop-place g l = (k : ℕ) (a : _) (c : ℕ) → k < l.place → get_or l.cells k c ≡ cell_of_address l.sides.v4 l.sides.v6 (g.A.Addressed.address (get_or l.addrs k a))
