use Rattle.std.proofs.Common.{None, ap, sym, ◌∙◌}
use Rattle.hop_index.specs.Ranges.{HopRange}
use Rattle.hop_index.specs.InnerRanges.{head_of}
use Rattle.hop_index.proofs.Marks.{read}
use Rattle.hop_index.proofs.ranges.Ranges.head.Goals as goal

pub returns : goal.returns
returns g c = c.head_at.ensures _ ∙ sym (ap (λ (r : HopRange). head_of g.N.Key.width r.last) (read _ _ _ c.self.view_is c.args.place (record { last = 0; hop = None }) c.index.result.now c.requires c.index.ensures))
