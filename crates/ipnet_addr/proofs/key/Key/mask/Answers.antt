use Rattle.std.proofs.Common.{◌∙◌, ap, arith}
use Rattle.ipnet_addr.proofs.Shifts.{mask}
use Rattle.ipnet_addr.proofs.key.Key.mask.Goals as goal

pub from_bits-requires-2 : goal.from_bits-requires-2
from_bits-requires-2 g c = let m = mask g.Self.Key.width c.width.result c.args.len c.width.ensures.value c.width.ensures.within c.requires in omega (arith, m.0, m.1)

pub returns : goal.returns
returns g c =
    let m = mask g.Self.Key.width c.width.result c.args.len c.width.ensures.value c.width.ensures.within c.requires in
    ap g.Self.Key.number (c.from_bits-2.ensures ∙ ap g.Self.Key.of_number m.0) ∙ g.met.Self.Key.numbered _ m.1
