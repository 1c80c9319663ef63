-- The change of a node after a mutable reference to one of its values ended.
use Rattle.std.specs.Prelude.{List, Bool}
use Rattle.std.specs.Borrow.{Lends, MutBor, Fml, RattleType}
use Rattle.std.specs.FinMap.{insert}
use Rattle.trie_core.specs.Nodes.{Seen}
use Rattle.trie_core.specs.contracts.node.Node.{the_row as the_row}
use Rattle.trie_core.specs.contracts.node.Branch.{the_row as branch_row}

-- the node s with the value w at the stored key q
abbrev pub node_with : {X : Type 0} → Seen X → List Bool → X → Seen X
node_with s q w = record s { entries = insert s.entries q w }

-- the node or the branch behind s ends with the last value written through r at q
abbrev pub node_lends : (T : RattleType) → MutBor (Seen T.Denot) → List Bool → MutBor T.Denot → Fml
node_lends T s q r = Lends (the_row T) T s r (node_with s.now q)

abbrev pub branch_lends : (T : RattleType) → MutBor (Seen T.Denot) → List Bool → MutBor T.Denot → Fml
branch_lends T s q r = Lends (branch_row T) T s r (node_with s.now q)
