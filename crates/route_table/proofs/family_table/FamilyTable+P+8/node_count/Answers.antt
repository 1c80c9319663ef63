use Rattle.std.proofs.Common.{◌∙◌, ap}
use Rattle.trie_core.specs.Count.{nodes}
use Rattle.route_table.proofs.Searches.{map_is}
use Rattle.route_table.proofs.family_table.FamilyTable+P+8.node_count.Goals as goal

pub returns : goal.returns
returns g c = c.node_count.ensures.tidy c.self.invariant.1 ∙ ap nodes (map_is _ _ c.self.invariant.0 _ c.self.view_is)
