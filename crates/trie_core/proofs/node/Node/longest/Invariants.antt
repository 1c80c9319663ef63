use Rattle.std.proofs.Common.{length}
use Rattle.trie_core.proofs.Matches.{IsOnWay}
use Rattle.trie_core.proofs.node.Node.longest.Given as goal

abbrev pub invariant-way : goal.invariant-way
invariant-way g l = IsOnWay l.self l.fn.path l.node l.path l.best

abbrev pub decreases-way : goal.decreases-way
decreases-way g l = length l.path
