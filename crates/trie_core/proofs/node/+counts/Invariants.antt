use Rattle.std.proofs.Common.{◌≡◌, ◌+◌, take}
use Rattle.trie_core.specs.InnerCount.{all_nodes, total, entry_count}
use Rattle.trie_core.proofs.node.+counts.Given as goal

abbrev pub decreases-Branch::counts : goal.decreases-Branch::counts
decreases-Branch::counts g l = goal.size-Branch::counts g l

abbrev pub decreases-Node::counts : goal.decreases-Node::counts
decreases-Node::counts g l = goal.size-Node::counts g l

abbrev pub invariant-Branch::counts-loop-child : goal.invariant-Branch::counts-loop-child
invariant-Branch::counts-loop-child g l = record {
  entries : l.entries ≡ l.initial.entries + total entry_count (take l.child-index l.child-items);
  nodes : l.nodes ≡ l.initial.nodes + total all_nodes (take l.child-index l.child-items);
}
