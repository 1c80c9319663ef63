use Rattle.std.proofs.Common.{◌-◌, ◌≤◌, length}
use Rattle.hop_index.proofs.cells.after_chunk.Given as goal

abbrev pub invariant-loop-place : goal.invariant-loop-place
invariant-loop-place g l = record { least : l.initial.place ≤ l.place; most : l.place ≤ length l.ranges }

abbrev pub decreases-loop-place : goal.decreases-loop-place
decreases-loop-place g l = length l.ranges - l.place
