use Rattle.std.proofs.Common.{◌∙◌, sym}
use Rattle.ipnet_blocks.specs.Blocks.{bit_string}
use Rattle.ipnet.specs.IpNets.{block}
use Rattle.trie_core.specs.Count.{visit_count}
use Rattle.route_table.proofs.FamilyTables.{map_seen}
use Rattle.route_table.proofs.table.RouteTable.visits.Goals as goal

pub returns-in-V4-clause-visits : goal.returns-in-V4-clause-visits
returns-in-V4-clause-visits c =
    c.visits.ensures.visits ∙ (λ i. visit_count (map_seen c.self.invariant c.self.view_is c.in-V4.is i) (bit_string (block (sym c.in-V4.is i))))

pub returns-in-V6-clause-visits : goal.returns-in-V6-clause-visits
returns-in-V6-clause-visits c =
    c.visits-in-V6.ensures.visits ∙ (λ i. visit_count (map_seen c.self.invariant c.self.view_is c.in-V6.is i) (bit_string (block (sym c.in-V6.is i))))
