use Rattle.std.proofs.Common.{length, ◌↔◌}
use Rattle.trie_core.specs.InnerSearch.{IsLeaf}
use Rattle.trie_core.proofs.node.Node.is_leaf.Given as goal

abbrev pub invariant-way : goal.invariant-way
invariant-way g l = IsLeaf l.node l.path ↔ IsLeaf l.fn.self l.fn.path

abbrev pub decreases-way : goal.decreases-way
decreases-way g l = length l.path
