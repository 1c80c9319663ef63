use Rattle.std.proofs.Common.{◌*◌}
use Rattle.std.proofs.Math.Nat.{div-mul-le_self, lt-div-mul-add}
use Rattle.shape.specs.InnerGrowth.{block_size}
use Rattle.shape.proofs.growth.filled.Goals as goal

pub returns-clause-memory : goal.returns-clause-memory
returns-clause-memory c = rw c.max.ensures (div-mul-le_self (block_size (c.args.count * c.args.size)) c.args.size)

pub returns-clause-full : goal.returns-clause-full
returns-clause-full c = rw c.max.ensures (lt-div-mul-add c.requires.size.0)
