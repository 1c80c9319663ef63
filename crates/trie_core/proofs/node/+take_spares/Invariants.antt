use Rattle.shape.specs.Shapes.{shape_values, shape_children}
use Rattle.trie_core.proofs.Tidying.{IsTidyBelow}
use Rattle.trie_core.proofs.node.+take_spares.Given as goal

abbrev pub decreases-Branch::take_spares : goal.decreases-Branch::take_spares
decreases-Branch::take_spares g l = goal.size-Branch::take_spares g l

abbrev pub decreases-Node::take_spares : goal.decreases-Node::take_spares
decreases-Node::take_spares g l = goal.size-Node::take_spares g l

abbrev pub invariant-Branch::take_spares-number : goal.invariant-Branch::take_spares-number
invariant-Branch::take_spares-number g l = IsTidyBelow l.fn.self l.number l.gone l.self-inside.value_bits (shape_values l.self-inside.body) l.self-inside.child_bits (shape_children l.self-inside.body)
