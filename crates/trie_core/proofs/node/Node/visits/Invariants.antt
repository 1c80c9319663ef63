use Rattle.std.proofs.Common.{◌≡◌, ◌+◌, ◌*◌, ◌≤◌, length}
use Rattle.trie_core.specs.Count.{node_visits}
use Rattle.trie_core.proofs.node.Node.visits.Given as goal

abbrev pub invariant-way : goal.invariant-way
invariant-way g l = record {
  bound : 5 * l.visits + length l.path ≤ length l.fn.path + 5;
  all : l.visits + node_visits l.node.entries l.node.spares l.path ≡ node_visits l.fn.self.entries l.fn.self.spares l.fn.path + 1;
}

abbrev pub decreases-way : goal.decreases-way
decreases-way g l = length l.path
