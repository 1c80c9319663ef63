use Rattle.std.proofs.Common.{◌≡◌, ℕ, ◌^◌, option_copied}
use Rattle.hop_index.specs.InnerNodes.{AreNodes, Leads}
use Rattle.hop_index.proofs.Divisions.{AreLed}
use Rattle.hop_index.proofs.nodes.Nodes.+entries.Given as goal

abbrev pub decreases-entries : goal.decreases-entries
decreases-entries g l = l.levels

abbrev pub invariant-loop-cell : goal.invariant-loop-cell
invariant-loop-cell g l = record {
  ranges : l.self.ranges ≡ l.initial.self.ranges;
  nodes : AreNodes l.self.ranges (2 ^ g.N.Key.width) l.self.nodes.items l.self.cells.items;
  kept : (x entry : ℕ) → Leads l.initial.self.nodes.items l.self.ranges x entry → Leads l.self.nodes.items l.self.ranges x entry;
  led : AreLed g.N.Key.width (option_copied l.tops) l.node l.self.ranges l.self.nodes.items l.cell l.place l.entries.items;
}
