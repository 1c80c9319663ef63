use Rattle.std.proofs.Common.{refl}
use Rattle.route_table.proofs.FamilyTables.{both_families}
use Rattle.route_table.proofs.PartBits.{part_four, part_six}
use Rattle.route_table.proofs.updates.HopTable.edits_of_table.Goals as goal

pub returns : goal.returns
returns c =
    let old = both_families c.self.inside.v4 c.self.inside.v6 c.args.self.now c.self.invariant c.self.view_is _ _ refl refl in
    let new = both_families c.changes.inside.v4 c.changes.inside.v6 c.args.changes.now c.changes.invariant c.changes.view_is _ _ refl refl in
    record {
      table = old.table;
      ipv4 = record { made = rw (part_four _ _ _ new, part_four _ _ _ old) c.in_ok-v4.ensures.edits; within = c.in_ok-v4.ensures.within };
      ipv6 = record { made = rw (part_six _ _ _ new, part_six _ _ _ old) c.in_ok-v6.ensures.edits; within = c.in_ok-v6.ensures.within };
    }
