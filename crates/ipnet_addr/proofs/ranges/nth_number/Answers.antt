use Rattle.std.proofs.Common.{sym, arith}
use Rattle.ipnet_addr.proofs.RangeEnds.{fronts_none, fronts_all, fronts_some, front_at, front_past}
use Rattle.ipnet_addr.proofs.ranges.nth_number.Goals as goal

pub returns-then-start-end-clause-ends : goal.returns-then-start-end-clause-ends
returns-then-start-end-clause-ends c = sym (fronts_none c.args.n _ _ c.if-start-end.true)

pub returns-then-n-room-clause-answer : goal.returns-then-n-room-clause-answer
returns-then-n-room-clause-answer c = front_at _ _ c.args.n _ c.if-start-end.false (omega arith) (omega arith)

pub returns-then-n-room-clause-ends : goal.returns-then-n-room-clause-ends
returns-then-n-room-clause-ends c = sym (fronts_some c.args.n _ _ (omega arith))

pub returns-then-n-room-2-clause-answer : goal.returns-then-n-room-2-clause-answer
returns-then-n-room-2-clause-answer c = front_at _ _ c.args.n _ c.if-start-end.false (omega arith) (omega arith)

pub returns-then-n-room-2-clause-ends : goal.returns-then-n-room-2-clause-ends
returns-then-n-room-2-clause-ends c = sym (fronts_all c.args.n _ _ c.if-start-end.false (omega arith))

pub returns-else-n-room-2-clause-answer : goal.returns-else-n-room-2-clause-answer
returns-else-n-room-2-clause-answer c = front_past _ _ c.args.n (omega arith)

pub returns-else-n-room-2-clause-ends : goal.returns-else-n-room-2-clause-ends
returns-else-n-room-2-clause-ends c = sym (fronts_all c.args.n _ _ c.if-start-end.false (omega arith))
