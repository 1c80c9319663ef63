use Rattle.std.proofs.Common.{◌∙◌, sym, ap}
use Rattle.ipnet_addr.specs.Addresses.{Ipv4, Ipv6}
use Rattle.route_laws.specs.Onwards.{count_of}
use Rattle.route_laws.specs.Networks.{routes_of}
use Rattle.route_table.proofs.FamilyTables.{count_side, seen_table}
use Rattle.route_table.proofs.table.Table.count.Goals as goal

pub returns : goal.returns
returns g c =
    let v4 = c.count.ensures ∙ sym (count_side _ _ c.self.invariant Ipv4) ∙ ap (λ T. count_of Ipv4 (routes_of T)) c.self.view_is in
    let v6 = c.count-2.ensures ∙ sym (count_side _ _ c.self.invariant Ipv6) ∙ ap (λ T. count_of Ipv6 (routes_of T)) c.self.view_is in
    record { counts = λ i. (v4 i, v6 i); table = seen_table _ _ _ c.self.invariant c.self.view_is }
