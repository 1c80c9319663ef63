use Rattle.std.proofs.Common.{◌∙◌, ap}
use Rattle.ipnet_blocks.specs.Blocks.{Block, bit_string}
use Rattle.trie_core.specs.Count.{visit_count}
use Rattle.route_table.specs.Tries.{map_of}
use Rattle.route_table.proofs.table.RouteTable.get_visits.Goals as goal

pub returns-clause-visits : goal.returns-clause-visits
returns-clause-visits c = c.visits.ensures.visits ∙ ap (λ (b : Block). visit_count (map_of b.family c.args.self.now) (bit_string b)) c.cleared-net.ensures.block
