use Rattle.std.proofs.Common.{◌≤◌, ◌∙◌, length, sym, ap, subst}
use Rattle.ipnet_blocks.specs.Blocks.{bit_string}
use Rattle.ipnet.specs.IpNets.{net_in}
use Rattle.route_laws.specs.Tables.{route_of}
use Rattle.route_laws.proofs.NetworksAt.{block_of-net_in}
use Rattle.route_table.proofs.updates.next_path.Goals as goal

pub returns : goal.returns
returns g c =
    let f = g.P.FamilyNet.family in
    let n = g.P.FamilyNet.parts c.in_ok-net.net in (
      route_of (net_in f n) c.in_ok-net.field-0-1 c.in_ok-net.field-0-2,
      c.in_ok-net.ensures.0,
      ap bit_string (block_of-net_in f n) ∙ sym (c.path_of.ensures.value ∙ g.met.P.FamilyNet.bits_are c.in_ok-net.net),
      subst (λ w. length c.path_of.result ≤ w) g.met.P.FamilyNet.width_is c.path_of.ensures.width,
    )
