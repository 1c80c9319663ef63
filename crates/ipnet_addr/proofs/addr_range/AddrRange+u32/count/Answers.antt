use Rattle.std.proofs.Common.{arith}
use Rattle.ipnet_addr.proofs.RangeEnds.{count_is}
use Rattle.ipnet_addr.proofs.addr_range.AddrRange+u32.count.Goals as goal

pub count_numbers-requires : goal.count_numbers-requires
count_numbers-requires c = omega (arith, count_is c.into.result c.into-2.result)
