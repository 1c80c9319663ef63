use Rattle.std.proofs.Common.{◌∙◌, sym}
use Rattle.ipnet_addr.specs.Addresses.{Ipv4, Ipv6}
use Rattle.ipnet_blocks.specs.Networks.{block_of}
use Rattle.route_laws.specs.Networks.{choices_at}
use Rattle.route_table.proofs.FamilyTables.{choices_side}
use Rattle.route_table.proofs.table.RouteTable.all.Goals as goal

pub returns-in-V4-clause-choices : goal.returns-in-V4-clause-choices
returns-in-V4-clause-choices c = c.all.ensures ∙ sym (choices_side _ _ c.self.invariant (block_of Ipv4 c.in-V4.net)) ∙ (λ i. choices_at (c.self.view_is i) (c.in-V4.ensures.block i))

pub returns-in-V6-clause-choices : goal.returns-in-V6-clause-choices
returns-in-V6-clause-choices c = c.all-in-V6.ensures ∙ sym (choices_side _ _ c.self.invariant (block_of Ipv6 c.in-V6.net)) ∙ (λ i. choices_at (c.self.view_is i) (c.in-V6.ensures.block i))
