use Rattle.std.proofs.Common.{arith, ap, ◌*◌, length, length-append}
use Rattle.least_table.specs.InnerStacks.{joined_blocks}
use Rattle.least_table.proofs.Stacks.{length_joined}
use Rattle.least_table.proofs.stack.Stack.len.Goals as goal

pub returns : goal.returns
returns g c =
    let s = c.self.inside in
    omega (arith, ap (λ n. n * g.row.SIZE) c.len.ensures, c.len-2.ensures, ap (λ n. n * g.row.SIZE) s.full.ok.0, s.last.ok.0, length_joined g.row.SIZE s.full.items c.self.invariant.1, length-append (joined_blocks s.full.items) s.last.items, ap length c.self.view_is)
