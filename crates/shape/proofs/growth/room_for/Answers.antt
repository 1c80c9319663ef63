use Rattle.std.proofs.Common.{◌+◌, ◌*◌, ◌/◌, ◌<◌, ◌≤◌, max, arith}
use Rattle.shape.proofs.Blocks.{block-least, block-most}
use Rattle.shape.proofs.growth.room_for.Goals as goal

pub returns-then-size-eq0-clause-memory : goal.returns-then-size-eq0-clause-memory
returns-then-size-eq0-clause-memory c =
    rw c.max-least.ensures (block-least ((c.args.len + max c.args.more (c.args.len / 4)) * c.args.size))

pub returns-then-size-eq0-clause-full : goal.returns-then-size-eq0-clause-full
returns-then-size-eq0-clause-full c l m =
    let large : 16 ≤ c.args.size = omega (arith, c.then-size-eq0.either, l, m) in
    let some : 0 < c.args.len + max c.args.more (c.args.len / 4) = omega (arith, c.requires) in
    rw c.max-least.ensures (block-most (c.args.len + max c.args.more (c.args.len / 4)) c.args.size some large)
