use Rattle.std.proofs.Common.{arith}
use Rattle.ipnet_addr.proofs.RangeEnds.{count_is}
use Rattle.ipnet_addr.proofs.ranges.hint_numbers.Goals as goal

pub returns-then-room : goal.returns-then-room
returns-then-room c = (omega (arith, count_is c.args.start c.args.end), omega (arith, count_is c.args.start c.args.end))

pub returns-else-room : goal.returns-else-room
returns-else-room c = (omega (arith, count_is c.args.start c.args.end), omega (arith, count_is c.args.start c.args.end))
