use Rattle.std.proofs.Common.{◌+◌, ◌*◌, length}
use Rattle.trie_core.proofs.node.+store.Given as goal

abbrev pub decreases-Branch::store : goal.decreases-Branch::store
decreases-Branch::store g l = 2 * length l.path

abbrev pub decreases-Node::insert_below : goal.decreases-Node::insert_below
decreases-Node::insert_below g l = 2 * l.len + 1
