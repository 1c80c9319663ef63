use Rattle.std.proofs.Common.{arith}
use Rattle.least_table.proofs.Stacks.{in_block, in_last, last_within}
use Rattle.least_table.proofs.stack.Stack.get.Goals as goal

pub index-requires-else-block-blocks : goal.index-requires-else-block-blocks
index-requires-else-block-blocks g c =
    let s = c.self.inside in
    omega (arith, s.last.ok.0, last_within g.row.SIZE s.full.items s.last.items c.args.at c.self.invariant.0.0 c.self.invariant.1 (rw c.self.view_is c.requires) c.self.invariant.3 (omega (arith, c.if-block-blocks.false, c.len-blocks.ensures, s.full.ok.0)))

pub returns-then-block-blocks : goal.returns-then-block-blocks
returns-then-block-blocks g c =
    let s = c.self.inside in
    rw c.self.view_is at (in_block g.row.SIZE s.full.items s.last.items c.args.at c.self.invariant.0.0 c.self.invariant.1 c.index.result.now c.index-then-block-blocks.result.now (omega (arith, c.if-block-blocks.true, c.len-blocks.ensures, s.full.ok.0)) c.index.ensures c.index-then-block-blocks.ensures)

pub returns-else-block-blocks : goal.returns-else-block-blocks
returns-else-block-blocks g c =
    let s = c.self.inside in
    rw c.self.view_is at (in_last g.row.SIZE s.full.items s.last.items c.args.at c.self.invariant.0.0 c.self.invariant.1 (rw c.self.view_is c.requires) c.self.invariant.3 (omega (arith, c.if-block-blocks.false, c.len-blocks.ensures, s.full.ok.0)) c.index-else-block-blocks.result.now c.index-else-block-blocks.ensures)
