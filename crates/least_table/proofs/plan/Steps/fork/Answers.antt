use Rattle.std.proofs.lemmas.Result.{on_ok_weaker}
use Rattle.least_table.specs.InnerHops.{members}
use Rattle.least_table.proofs.Joins.{fork_ends}
use Rattle.least_table.proofs.plan.Steps.fork.Goals as goal

pub returns : goal.returns
returns c = on_ok_weaker c.push_halves.result
    (λ grows xs ys p q held rising ends. fork_ends c.args.low xs ys p q c.args.self.now c.push_halves.new.self (members c.in_ok-hops.hops) held ends
    (rw c.len-high.ensures at c.in_ok-hops.ensures.merged) c.in_ok-hops.ensures.rising (rw c.as_slice.ensures at grows)) c.push_halves.ensures
