use Rattle.std.proofs.Common.{◌∙◌, ap, length, arith}
use Rattle.trie_core.proofs.Trails.{one_frame}
use Rattle.trie_core.proofs.walk.FrameWalk.start.Goals as goal

pub push-requires : goal.push-requires
push-requires g c = omega (arith, ap length c.empty-stack.ensures)

pub over-requires : goal.over-requires
over-requires g c = (one_frame (g.S.Frame.Frame.left c.args.frame) c.args.trail c.empty-stack.ensures c.push.ensures c.requires.positive c.requires.levels c.requires.reach c.requires.keys).0

pub returns : goal.returns
returns g c = ap (λ w. w.0) c.over.ensures ∙ (one_frame (g.S.Frame.Frame.left c.args.frame) c.args.trail c.empty-stack.ensures c.push.ensures c.requires.positive c.requires.levels c.requires.reach c.requires.keys).1
