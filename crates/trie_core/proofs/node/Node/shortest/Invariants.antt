use Rattle.std.proofs.Common.{length}
use Rattle.trie_core.specs.InnerSearch.{NoneBelow}
use Rattle.trie_core.proofs.Searches.{IsAt}
use Rattle.trie_core.proofs.node.Node.shortest.Given as goal

abbrev pub invariant-way : goal.invariant-way
invariant-way g l = record {
  place : IsAt l.fn.self l.fn.path l.depth l.node l.path;
  none : NoneBelow l.fn.self.entries l.fn.path l.depth;
}

abbrev pub decreases-way : goal.decreases-way
decreases-way g l = length l.path
