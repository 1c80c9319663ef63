use Rattle.std.proofs.Common.{arith}
use Rattle.std.proofs.lemmas.Bool.Decides.{nat_tests}
use Rattle.least_table.proofs.Sets.{common_merged, all_merged}
use Rattle.least_table.proofs.hops.merge_lists.Goals as goal

pub returns-then-not-is_empty-clause-merged : goal.returns-then-not-is_empty-clause-merged
returns-then-not-is_empty-clause-merged c = rw c.new.ensures (common_merged c.args.low.now c.args.high.now c.in_ok-shared.shared.items c.in_ok-shared.ensures (grind (arith, nat_tests)))

pub returns-clause-merged : goal.returns-clause-merged
returns-clause-merged c = rw c.new-2.ensures (all_merged c.args.low.now c.args.high.now c.in_ok-shared.shared.items c.in_ok-all.field-0.items c.in_ok-shared.ensures (grind (arith, nat_tests)) c.in_ok-all.ensures)
