use Rattle.std.proofs.Common.{◌-◌, refl, arith}
use Rattle.trie_core.specs.InnerChains.{chain, skipped}
use Rattle.trie_core.proofs.Frames.{same_parts}
use Rattle.trie_core.proofs.Levels.{way_view, way_parts, here_parts}
use Rattle.trie_core.proofs.lent_frame.LentNode.parts.Goals as goal

pub returns-then-self-eq0 : goal.returns-then-self-eq0
returns-then-self-eq0 g c = here_parts c.self.inside.skip c.if-self-eq0.true c.self.view_is c.branch_parts.ensures

pub returns : goal.returns
returns g c =
    let below = c.self.inside.levels - 1 in
    same_parts c.none.ensures refl (way_parts below c.self.inside.skip (chain below (skipped below c.low_bits.result) c.self.inside.branch.now) (way_view c.self.inside.levels below c.self.inside.skip c.low_bits.result c.self.inside.branch.now c.args.self.now (omega (arith, c.if-self-eq0.false)) c.low_bits.ensures c.self.view_is))
