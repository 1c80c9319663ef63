use Rattle.std.proofs.Common.{◌∙◌, ◌*◌, ◌%◌, ◌^◌, ap, arith}
use Rattle.std.proofs.lemmas.Nat.{mod_below, pow_pos}
use Rattle.ipnet_addr.proofs.Shifts.{up}
use Rattle.ipnet_addr.proofs.key.Key.shifted_left.Goals as goal

pub from_bits-requires-2 : goal.from_bits-requires-2
from_bits-requires-2 g c = omega (arith, up g.Self.Key.width c.width-free.result c.to_bits-bits.result c.args.count c.width-free.ensures.value c.width-free.ensures.within c.to_bits-bits.ensures.below, mod_below (c.to_bits-bits.result * 2 ^ c.args.count) (2 ^ g.Self.Key.width) (pow_pos g.Self.Key.width))

pub returns : goal.returns
returns g c =
    ap g.Self.Key.number (c.from_bits-2.ensures ∙ ap g.Self.Key.of_number (up g.Self.Key.width c.width-free.result c.to_bits-bits.result c.args.count c.width-free.ensures.value c.width-free.ensures.within c.to_bits-bits.ensures.below))
    ∙ g.met.Self.Key.numbered _ (mod_below (c.to_bits-bits.result * 2 ^ c.args.count) (2 ^ g.Self.Key.width) (pow_pos g.Self.Key.width))
    ∙ ap (λ n. n * 2 ^ c.args.count % 2 ^ g.Self.Key.width) c.to_bits-bits.ensures.value
