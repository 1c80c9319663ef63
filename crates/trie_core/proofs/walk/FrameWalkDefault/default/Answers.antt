use Rattle.std.proofs.Common.{◌∙◌, ap}
use Rattle.trie_core.proofs.Trails.{no_frames}
use Rattle.trie_core.proofs.walk.FrameWalkDefault.default.Goals as goal

pub over-requires : goal.over-requires
over-requires g c = (no_frames c.new.result c.empty.ensures).0

pub returns : goal.returns
returns g c = ap (λ w. w.0) c.over.ensures ∙ (no_frames c.new.result c.empty.ensures).1
