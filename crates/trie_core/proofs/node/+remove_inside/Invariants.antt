use Rattle.std.proofs.Common.{◌+◌, ◌*◌, length}
use Rattle.trie_core.proofs.node.+remove_inside.Given as goal

abbrev pub decreases-Node::remove_inside : goal.decreases-Node::remove_inside
decreases-Node::remove_inside g l = 2 * length l.path.now + 1

abbrev pub decreases-Branch::remove_inside : goal.decreases-Branch::remove_inside
decreases-Branch::remove_inside g l = 2 * length l.path.now
