-- Each node below a branch has fewer levels.
use Rattle.std.specs.Prelude.{◌+◌, ◌*◌, ◌≤◌}
use Rattle.std.proofs.Common.{arith}
use Rattle.short_vec.specs.Lists.{short_items}
use Rattle.shape.specs.declared.shape.Shape.{Shape}
use Rattle.shape.specs.declared.shape.Shape.TheVariants.{One, Values, Children, Both}
use Rattle.shape.specs.Shapes.{shape_children}
use Rattle.trie_core.specs.Nodes.{Seen}
use Rattle.trie_core.specs.InnerNodes.{node_height}
use Rattle.trie_core.specs.InnerChains.{most_le-levels}
use Rattle.trie_core.specs.declared.node.Branch.TheShapes.{weighed-Branch-body}

pub body_falls : {X : Type 0} (b : Shape (Seen X) X) → (weighed-Branch-body X).weight (Seen X) (λ y. 2 * y.levels + 1 + 1) b ≤ 2 * node_height (shape_children b) + 2
body_falls (One v alloc) = omega arith
body_falls (Values vs) = omega arith
body_falls (Children cs) = omega (arith, most_le-levels (short_items cs))
body_falls (Both cs vs) = omega (arith, most_le-levels (short_items cs))
