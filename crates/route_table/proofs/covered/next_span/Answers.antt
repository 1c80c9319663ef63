use Rattle.std.proofs.Common.{◌∙◌, refl, sym, ap}
use Rattle.ipnet_blocks.specs.Blocks.{first, last}
use Rattle.ipnet.specs.IpNets.{block, net_in}
use Rattle.route_laws.specs.Tables.{route_of}
use Rattle.route_table.proofs.Gaps.{block_in_family, length_of_bits}
use Rattle.route_table.proofs.covered.next_span.Goals as goal

pub returns : goal.returns
returns g c =
    let f = g.P.FamilyNet.family in
    let m = g.P.FamilyNet.parts c.in_ok-net.net in
    let same = ap (λ n. block n) c.ip_net.ensures in (
      route_of (net_in f m) c.in_ok-net.field-0-1 c.in_ok-net.field-0-2,
      c.in_ok-net.ensures.0,
      c.prefix_len.ensures.value ∙ length_of_bits f m _ (g.met.P.FamilyNet.bits_are c.in_ok-net.net) ∙ sym (ap (λ b. b.len) (block_in_family f m _ refl)),
      c.span.ensures.first ∙ ap first same,
      c.span.ensures.last ∙ ap last same,
    )
