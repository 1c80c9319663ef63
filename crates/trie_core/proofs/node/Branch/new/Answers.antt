use Rattle.shape.specs.Shapes.{shape_values, shape_children}
use Rattle.trie_core.proofs.Seen.{new_map, new_set}
use Rattle.trie_core.proofs.node.Branch.new.Goals as goal

pub returns-clause-map : goal.returns-clause-map
returns-clause-map g c = new_map 0 0 (shape_values c.new.result) (shape_children c.new.result) c.new.ensures.values c.new.ensures.children

pub returns-clause-spares : goal.returns-clause-spares
returns-clause-spares g c = new_set 0 (shape_children c.new.result) c.new.ensures.children
