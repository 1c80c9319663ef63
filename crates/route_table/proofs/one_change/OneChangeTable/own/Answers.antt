use Rattle.std.proofs.Common.{◌∙◌, arith}
use Rattle.route_table.proofs.Asked.{own_other, own_told}
use Rattle.route_table.proofs.one_change.OneChangeTable.own.Goals as goal

pub returns-then-len-prefix_len : goal.returns-then-len-prefix_len
returns-then-len-prefix_len g c = own_other (g.P.Prefix.bits c.args.self.now.net) c.args.self.now.hop c.args.block.now (λ e. absurd (omega (arith, c.len.ensures, c.prefix_len.ensures.value, e)))

pub returns : goal.returns
returns g c = c.told.ensures ∙ own_told (g.P.Prefix.bits c.args.self.now.net) c.args.self.now.hop c.args.block.now (omega (arith, c.len.ensures, c.prefix_len.ensures.value))
