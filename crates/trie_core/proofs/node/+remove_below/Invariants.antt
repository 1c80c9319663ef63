use Rattle.std.proofs.Common.{◌+◌, ◌*◌, length}
use Rattle.trie_core.proofs.node.+remove_below.Given as goal

abbrev pub decreases-Node::remove_below : goal.decreases-Node::remove_below
decreases-Node::remove_below g l = 2 * length l.path + 1

abbrev pub decreases-Branch::take : goal.decreases-Branch::take
decreases-Branch::take g l = 2 * length l.path
