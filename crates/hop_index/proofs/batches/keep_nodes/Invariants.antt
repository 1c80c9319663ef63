use Rattle.std.proofs.Common.{◌≤◌, length}
use Rattle.hop_index.specs.InnerNodes.{ArePlaces}
use Rattle.hop_index.proofs.batches.keep_nodes.Given as goal

abbrev pub invariant-loop-at : goal.invariant-loop-at
invariant-loop-at l = record { most : l.kept ≤ l.at; nodes : ArePlaces (length l.entries) l.count l.nodes }
