use Rattle.route_table.proofs.FlatRuns.{flat_of_table, seen_alone}
use Rattle.route_table.proofs.FamilyTables.{both_families}
use Rattle.route_table.proofs.hop_table.HopTable.into_flat.Goals as goal

pub new-requires : goal.new-requires
new-requires c = seen_alone (both_families _ _ _ c.into_sides-ipv4.ensures.families c.into_sides-ipv4.ensures.networks _ _ c.in_ok-ipv4.ensures c.in_ok-ipv6.ensures)

pub returns : goal.returns
returns c = flat_of_table _ (both_families _ _ _ c.into_sides-ipv4.ensures.families c.into_sides-ipv4.ensures.networks _ _ c.in_ok-ipv4.ensures c.in_ok-ipv6.ensures) c.new.ensures
