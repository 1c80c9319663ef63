use Rattle.std.proofs.Common.{◌∙◌, sym}
use Rattle.ipnet_addr.specs.Addresses.{Ipv4, Ipv6}
use Rattle.ipnet_blocks.specs.Networks.{block_of}
use Rattle.route_laws.specs.Onwards.{routes_after}
use Rattle.route_laws.specs.Networks.{routes_of}
use Rattle.route_table.proofs.FamilyTables.{seen_table, onwards_side}
use Rattle.route_table.proofs.walks.RouteTable.after.Goals as goal

pub returns-in-V4 : goal.returns-in-V4
returns-in-V4 c = record { routes = c.v4.ensures ∙ c.onwards.ensures ∙ sym (onwards_side _ _ c.self.invariant (block_of Ipv4 c.in-V4.net) _) ∙ (λ i. routes_after (routes_of (c.self.view_is i)) (c.in-V4.ensures.block i)); table = seen_table _ _ _ c.self.invariant c.self.view_is }

pub returns-in-V6 : goal.returns-in-V6
returns-in-V6 c = record { routes = c.v6.ensures ∙ c.onwards-in-V6.ensures ∙ sym (onwards_side _ _ c.self.invariant (block_of Ipv6 c.in-V6.net) _) ∙ (λ i. routes_after (routes_of (c.self.view_is i)) (c.in-V6.ensures.block i)); table = seen_table _ _ _ c.self.invariant c.self.view_is }
