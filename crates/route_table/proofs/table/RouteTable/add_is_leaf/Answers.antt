use Rattle.std.proofs.Common.{[], ◌∷◌, IsTrue, ◌↔◌, subst, IfOk}
use Rattle.std.proofs.lemmas.Result.{IfOk-weaker}
use Rattle.ipnet.specs.IpNets.{block}
use Rattle.ipnet_blocks.specs.Blocks.{Block}
use Rattle.ipnet_blocks.specs.Maximal.{IsMaximal}
use Rattle.route_laws.specs.Networks.{routes_of}
use Rattle.route_laws.specs.Tables.{Governed}
use Rattle.route_table.specs.Given.{IsNewLeaf}
use Rattle.route_table.proofs.FamilyTables.{leaf_governs}
use Rattle.route_table.proofs.table.RouteTable.add_is_leaf.Goals as goal

pub returns-clause-leaf : goal.returns-clause-leaf
returns-clause-leaf c = subst (λ (b : Block). IfOk c.add_choice.result (λ r. IsTrue r.2 ↔ IsNewLeaf c.args.self.now c.add_choice.new.self b)) c.cleared.ensures.block c.add_choice.ensures.adds.leaf

pub returns-clause-governed : goal.returns-clause-governed
returns-clause-governed c =
    subst (λ (b : Block). IfOk c.add_choice.result (λ r. IsTrue r.2 → IsMaximal (Governed (routes_of c.add_choice.new.self) b) (b ∷ []))) c.cleared.ensures.block
    (IfOk-weaker c.add_choice.result _ _ (λ r leaf t. leaf_governs c.add_choice.new.self (block c.cleared.result) c.cleared.ensures.is_block (leaf.0 t).1) c.add_choice.ensures.adds.leaf)
