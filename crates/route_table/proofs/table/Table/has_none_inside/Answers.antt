use Rattle.route_table.proofs.FamilyTables.{leaf_seen}
use Rattle.route_table.proofs.table.Table.has_none_inside.Goals as goal

pub returns-in-V4 : goal.returns-in-V4
returns-in-V4 g c = let s = leaf_seen c.self.invariant c.self.view_is c.in-V4.is in (λ t. s.0 (c.is_leaf.ensures.0 t), λ l. c.is_leaf.ensures.1 (s.1 l))

pub returns-in-V6 : goal.returns-in-V6
returns-in-V6 g c = let s = leaf_seen c.self.invariant c.self.view_is c.in-V6.is in (λ t. s.0 (c.is_leaf-in-V6.ensures.0 t), λ l. c.is_leaf-in-V6.ensures.1 (s.1 l))
