use Rattle.std.proofs.Common.{◌≡◌, ◌↔◌, List, Bool, arith, refl, subst, true}
use Rattle.ipnet_blocks.specs.BitStrings.{begins}
use Rattle.route_table.proofs.Asked.{leaf_long, leaf_short}
use Rattle.route_table.proofs.one_change.OneChangeTable.is_leaf.Goals as goal

pub returns-then-len-prefix_len : goal.returns-then-len-prefix_len
returns-then-len-prefix_len g c = let leaf = leaf_long (g.P.Prefix.bits c.args.self.now.net) c.args.self.now.hop c.args.block.now (omega (arith, c.len.ensures, c.prefix_len.ensures.value)) in (λ e. leaf, λ e. refl)

pub returns : goal.returns
returns g c =
    let net = g.P.Prefix.bits c.args.self.now.net in
    leaf_short (g.P.Prefix.bits c.args.self.now.net) c.args.self.now.hop c.args.block.now (omega (arith, c.len.ensures, c.prefix_len.ensures.value)) c.contains.result
    (subst (λ (s : List Bool). (c.contains.result ≡ true) ↔ (begins s net ≡ true)) c.prefix_of-block.ensures.bits c.contains.ensures)
