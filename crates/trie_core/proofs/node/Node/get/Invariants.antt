use Rattle.std.proofs.Common.{◌≡◌, length}
use Rattle.std.specs.FinMap.{get}
use Rattle.trie_core.proofs.node.Node.get.Given as goal

abbrev pub invariant-way : goal.invariant-way
invariant-way g l = get l.node.entries l.path ≡ get l.self.entries l.fn.path

abbrev pub decreases-way : goal.decreases-way
decreases-way g l = length l.path
