use Rattle.std.proofs.Common.{◌∙◌, ◌-◌, ◌*◌, ◌%◌, ◌^◌, sym, refl, arith}
use Rattle.trie_core.specs.InnerChains.{chain, skipped}
use Rattle.trie_core.proofs.Levels.{way_view, way_none, way_child}
use Rattle.trie_core.proofs.lent_frame.LentNode.child.Goals as goal

pub returns-then-self-below : goal.returns-then-self-below
returns-then-self-below g c =
    let below = c.self.inside.levels - 1 in
    way_none c.args.path.now below c.self.inside.skip (chain below (skipped below (c.self.inside.skip % 2 ^ (5 * below))) c.self.inside.branch.now) (way_view c.self.inside.levels below c.self.inside.skip (c.self.inside.skip % 2 ^ (5 * below)) c.self.inside.branch.now c.args.self.now (omega (arith, c.if-self-eq0.false)) refl c.self.view_is) c.requires (λ e. c.if-self-below.true (e ∙ sym c.five.ensures.value))

pub returns : goal.returns
returns g c =
    let below = c.self.inside.levels - 1 in
    way_child c.args.path.now below c.self.inside.skip (chain below (skipped below c.low_bits.result) c.self.inside.branch.now) (way_view c.self.inside.levels below c.self.inside.skip c.low_bits.result c.self.inside.branch.now c.args.self.now (omega (arith, c.if-self-eq0.false)) c.low_bits.ensures c.self.view_is) c.requires (c.if-self-below.false ∙ c.five.ensures.value)
