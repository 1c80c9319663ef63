use Rattle.std.proofs.Common.{◌∙◌, sym, ap}
use Rattle.ipnet_addr.specs.Addresses.{Ipv4, Ipv6}
use Rattle.trie_core.specs.Count.{nodes}
use Rattle.route_table.specs.Tries.{map_of}
use Rattle.route_table.proofs.FamilyTables.{map_side}
use Rattle.route_table.proofs.table.RouteTable.node_counts.Goals as goal

pub returns : goal.returns
returns c =
    let v4 = c.node_count.ensures ∙ ap nodes (sym (map_side _ _ c.self.invariant Ipv4) ∙ ap (map_of Ipv4) c.self.view_is) in
    let v6 = c.node_count-2.ensures ∙ ap nodes (sym (map_side _ _ c.self.invariant Ipv6) ∙ ap (map_of Ipv6) c.self.view_is) in
    λ i. (v4 i, v6 i)
