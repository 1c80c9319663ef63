use Rattle.std.proofs.Common.{◌∙◌, sym}
use Rattle.ipnet_addr.specs.Addresses.{Ipv4, Ipv6}
use Rattle.ipnet_blocks.specs.Networks.{block_of}
use Rattle.route_laws.specs.Tables.{covering}
use Rattle.route_laws.specs.Networks.{routes_of}
use Rattle.route_table.proofs.FamilyTables.{covering_side, seen_table}
use Rattle.route_table.proofs.walks.RouteTable.cover.Goals as goal

pub returns-in-V4 : goal.returns-in-V4
returns-in-V4 c = record { routes = c.v4.ensures ∙ c.cover.ensures ∙ sym (covering_side _ _ c.self.invariant (block_of Ipv4 c.in-V4.net)) ∙ (λ i. covering (routes_of (c.self.view_is i)) (c.in-V4.ensures.block i)); table = seen_table _ _ _ c.self.invariant c.self.view_is }

pub returns-in-V6 : goal.returns-in-V6
returns-in-V6 c = record { routes = c.v6.ensures ∙ c.cover-in-V6.ensures ∙ sym (covering_side _ _ c.self.invariant (block_of Ipv6 c.in-V6.net)) ∙ (λ i. covering (routes_of (c.self.view_is i)) (c.in-V6.ensures.block i)); table = seen_table _ _ _ c.self.invariant c.self.view_is }
