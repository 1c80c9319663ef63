use Rattle.std.proofs.Common.{arith}
use Rattle.ipnet_addr.proofs.Powers.{filled_fits}
use Rattle.ipnet_addr.proofs.bits.filled.Goals as goal

pub overflow_add-result : goal.overflow_add-result
overflow_add-result c = omega (arith, c.ones.ensures, filled_fits c.args.number c.args.free 128 c.requires (omega arith))

pub returns-clause-within : goal.returns-clause-within
returns-clause-within c width l h = rw (c.cleared.ensures.value, c.ones.ensures) (filled_fits c.args.number c.args.free width l h)
