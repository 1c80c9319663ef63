use Rattle.std.proofs.Common.{refl}
use Rattle.route_laws.specs.LeastTables.{routes_for}
use Rattle.route_table.proofs.FamilyTables.{both_families, seen_table}
use Rattle.route_table.proofs.FewestUpdates.{are_updates}
use Rattle.route_table.proofs.updates.HopTable.updates.Goals as goal

pub returns-in_err-v4-clause-table : goal.returns-in_err-v4-clause-table
returns-in_err-v4-clause-table c = seen_table c.self.inside.v4 c.self.inside.v6 c.args.self.now c.self.invariant c.self.view_is

pub returns-clause-updates : goal.returns-clause-updates
returns-clause-updates c =
    let edits = c.in_ok-v4.ensures.edits in
    let made = c.in_ok-operations.ensures in
    let all = both_families c.self.inside.v4 c.self.inside.v6 c.args.self.now c.self.invariant c.self.view_is _ _ refl refl in
    rw made.operations (are_updates (routes_for c.args.changes.now) c.as_slice.result.now c.as_slice-2.result.now all edits.changes
    (rw (c.as_slice.ensures.value, c.as_slice-2.ensures.value) edits.both) made.ipv4_hops made.ipv6_hops)

pub returns-clause-changes : goal.returns-clause-changes
returns-clause-changes c = c.in_ok-v4.ensures.edits.changes
