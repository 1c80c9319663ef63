use Rattle.std.proofs.Common.{[], ◌∷◌, IsTrue, ◌↔◌, subst}
use Rattle.ipnet.specs.IpNets.{block}
use Rattle.ipnet_blocks.specs.Blocks.{Block}
use Rattle.ipnet_blocks.specs.Maximal.{IsMaximal}
use Rattle.route_laws.specs.Networks.{IsLeaf, routes_of}
use Rattle.route_laws.specs.Tables.{Governed}
use Rattle.route_table.proofs.FamilyTables.{leaf_governs}
use Rattle.route_table.proofs.table.RouteTable.is_leaf.Goals as goal

pub returns-clause-leaf : goal.returns-clause-leaf
returns-clause-leaf c = subst (λ (b : Block). IsTrue c.has_none_inside.result ↔ IsLeaf c.args.self.now b) c.cleared.ensures.block c.has_none_inside.ensures

pub returns-clause-governed : goal.returns-clause-governed
returns-clause-governed c t = subst (λ (b : Block). IsMaximal (Governed (routes_of c.args.self.now) b) (b ∷ [])) c.cleared.ensures.block (leaf_governs c.args.self.now (block c.cleared.result) c.cleared.ensures.is_block (c.has_none_inside.ensures.0 t))
