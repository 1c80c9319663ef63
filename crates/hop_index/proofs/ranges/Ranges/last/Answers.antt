use Rattle.std.proofs.Common.{None, ap}
use Rattle.hop_index.specs.Ranges.{HopRange}
use Rattle.hop_index.proofs.Marks.{read}
use Rattle.hop_index.proofs.ranges.Ranges.last.Goals as goal

pub returns : goal.returns
returns g c = let r = ap (λ (r : HopRange). r.last) (read _ _ _ c.self.view_is c.args.place (record { last = 0; hop = None }) c.index.result.now c.requires c.index.ensures) in cc (r, c.of_parts.ensures, c.stored_at-rest.ensures, c.deref.ensures.value)
