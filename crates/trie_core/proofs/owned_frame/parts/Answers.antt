use Rattle.std.proofs.Common.{◌-◌, refl, arith}
use Rattle.trie_core.specs.InnerChains.{chain, skipped}
use Rattle.trie_core.proofs.Frames.{same_parts}
use Rattle.trie_core.proofs.Levels.{way_view, way_parts, here_parts}
use Rattle.trie_core.proofs.owned_frame.parts.Goals as goal

pub returns-then-levels-eq0 : goal.returns-then-levels-eq0
returns-then-levels-eq0 g c = here_parts c.node.inside.skip c.if-levels-eq0.true c.node.view_is c.branch_parts.ensures

pub returns : goal.returns
returns g c =
    let below = c.node.inside.levels - 1 in
    same_parts c.none.ensures refl (way_parts below c.node.inside.skip (chain below (skipped below c.low_bits.result) c.node.inside.branch) (way_view c.node.inside.levels below c.node.inside.skip c.low_bits.result c.node.inside.branch c.args.node (omega (arith, c.if-levels-eq0.false)) c.low_bits.ensures c.node.view_is))
