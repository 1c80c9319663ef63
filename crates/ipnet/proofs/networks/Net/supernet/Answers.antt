use Rattle.std.proofs.Common.{◌<◌, ap, ◌∙◌, arith}
use Rattle.ipnet_blocks.proofs.NetworkBlocks.{supernet_is}
use Rattle.ipnet.proofs.networks.Net.supernet.Goals as goal

pub returns : goal.returns
returns g c =
    let some : 0 < c.self.inside.len = omega arith in
    let number = ap g.N.Key.number c.from_bits.ensures ∙ g.met.N.Key.numbered c.cleared.result (omega (arith, c.cleared.ensures.within, c.to_bits.ensures.below)) in
    rw (← c.self.view_is, number, c.cleared.ensures.value, c.to_bits.ensures.value, c.width.ensures.value, g.met.N.AddressInt.sized) (some, supernet_is g.N.AddressInt.family _ c.self.invariant some)
