use Rattle.std.proofs.Common.{◌∙◌, ◌-◌, ◌*◌, ◌%◌, ◌^◌, sym, refl, arith}
use Rattle.trie_core.specs.InnerChains.{chain, skipped}
use Rattle.trie_core.proofs.Levels.{way_view, way_none, way_child}
use Rattle.trie_core.proofs.owned_frame.child_of_node.Goals as goal

pub returns-then-skip-below : goal.returns-then-skip-below
returns-then-skip-below g c =
    let below = c.node.inside.levels - 1 in
    way_none c.args.path.now below c.node.inside.skip (chain below (skipped below (c.node.inside.skip % 2 ^ (5 * below))) c.node.inside.branch) (way_view c.node.inside.levels below c.node.inside.skip (c.node.inside.skip % 2 ^ (5 * below)) c.node.inside.branch c.args.node (omega (arith, c.if-levels-eq0.false)) refl c.node.view_is) c.requires (λ e. c.if-skip-below.true (e ∙ sym c.five.ensures.value))

pub returns : goal.returns
returns g c =
    let below = c.node.inside.levels - 1 in
    way_child c.args.path.now below c.node.inside.skip (chain below (skipped below c.low_bits.result) c.node.inside.branch) (way_view c.node.inside.levels below c.node.inside.skip c.low_bits.result c.node.inside.branch c.args.node (omega (arith, c.if-levels-eq0.false)) c.low_bits.ensures c.node.view_is) c.requires (c.if-skip-below.false ∙ c.five.ensures.value)
