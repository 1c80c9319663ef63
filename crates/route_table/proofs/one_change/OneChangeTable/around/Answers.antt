use Rattle.std.proofs.Common.{◌∙◌, arith}
use Rattle.route_table.proofs.Asked.{around_none, around_told}
use Rattle.route_table.proofs.one_change.OneChangeTable.around.Goals as goal

pub returns-then-len-prefix_len : goal.returns-then-len-prefix_len
returns-then-len-prefix_len g c = around_none (g.P.Prefix.bits c.args.self.now.net) c.args.self.now.hop c.args.block.now (omega (arith, c.len.ensures, c.prefix_len.ensures.value))

pub returns : goal.returns
returns g c = c.told.ensures ∙ around_told (g.P.Prefix.bits c.args.self.now.net) c.args.self.now.hop c.args.block.now (omega (arith, c.len.ensures, c.prefix_len.ensures.value))
