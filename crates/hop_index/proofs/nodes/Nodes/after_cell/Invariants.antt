use Rattle.std.proofs.Common.{ℕ, ◌-◌, ◌<◌, ◌≤◌, option_copied}
use Rattle.hop_index.specs.InnerRanges.{range_at}
use Rattle.hop_index.specs.InnerNodes.{cell_by}
use Rattle.hop_index.proofs.nodes.Nodes.after_cell.Given as goal

abbrev pub invariant-loop-place : goal.invariant-loop-place
invariant-loop-place g l = record {
  least : l.initial.place ≤ l.place;
  most : l.place ≤ l.node.after;
  inside : (k : ℕ) → l.initial.place ≤ k → k < l.place → cell_by g.N.Key.width (option_copied l.tops) l.node (range_at l.self.ranges k).last ≤ l.cell;
}

abbrev pub decreases-loop-place : goal.decreases-loop-place
decreases-loop-place g l = l.node.after - l.place
