use Rattle.std.proofs.Common.{◌∙◌, ◌++◌, sym, ap, subst}
use Rattle.ipnet_addr.specs.Addresses.{Ipv4, Ipv6}
use Rattle.ipnet_blocks.specs.Networks.{block_of}
use Rattle.ipnet.specs.IpNets.{block}
use Rattle.route_laws.specs.Networks.{IsStoredTable, routes_of, without_stored}
use Rattle.route_laws.proofs.Networks.{routes_without}
use Rattle.route_table.proofs.FamilyTables.{is_stored_table, without_stored_side}
use Rattle.route_table.proofs.hop_table.HopTable.remove.Goals as goal

pub returns-in-V4-clause-routes : goal.returns-in-V4-clause-routes
returns-in-V4-clause-routes c =
    ap routes_of (ap (λ x. x ++ c.self.inside.v6) c.remove.ensures.networks ∙ sym (without_stored_side _ _ c.self.invariant (block_of Ipv4 c.in-V4.net)) ∙ (λ i. without_stored (c.self.view_is i) (block (sym c.in-V4.is i))))
    ∙ routes_without c.args.self.now (block c.args.net.now)

pub returns-in-V4-clause-tables : goal.returns-in-V4-clause-tables
returns-in-V4-clause-tables c = (subst IsStoredTable c.self.view_is (is_stored_table _ _ c.self.invariant), is_stored_table _ _ (c.remove.ensures.side, c.self.invariant.1))

pub returns-in-V6-clause-routes : goal.returns-in-V6-clause-routes
returns-in-V6-clause-routes c =
    ap routes_of (ap (λ x. c.self.inside.v4 ++ x) c.remove-in-V6.ensures.networks ∙ sym (without_stored_side _ _ c.self.invariant (block_of Ipv6 c.in-V6.net)) ∙ (λ i. without_stored (c.self.view_is i) (block (sym c.in-V6.is i))))
    ∙ routes_without c.args.self.now (block c.args.net.now)

pub returns-in-V6-clause-tables : goal.returns-in-V6-clause-tables
returns-in-V6-clause-tables c = (subst IsStoredTable c.self.view_is (is_stored_table _ _ c.self.invariant), is_stored_table _ _ (c.self.invariant.0, c.remove-in-V6.ensures.side))
