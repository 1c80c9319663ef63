use Rattle.std.proofs.Common.{arith}
use Rattle.ipnet_addr.proofs.RangeEnds.{count_is}
use Rattle.ipnet_addr.proofs.ranges.count_numbers.Goals as goal

pub overflow_cast-result : goal.overflow_cast-result
overflow_cast-result c = record { fits = omega (arith, count_is c.args.start c.args.end, c.requires) }

pub overflow_add-result : goal.overflow_add-result
overflow_add-result c = record { fits = omega (arith, count_is c.args.start c.args.end, c.requires) }

pub returns-else-start-end : goal.returns-else-start-end
returns-else-start-end c = omega (arith, count_is c.args.start c.args.end)
