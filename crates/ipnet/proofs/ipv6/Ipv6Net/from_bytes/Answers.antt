use Rattle.std.proofs.Common.{ap, ◌∙◌, arith}
use Rattle.ipnet_blocks.specs.Networks.{Network}
use Rattle.ipnet.proofs.SixteenOctets.{read_net}
use Rattle.ipnet.proofs.ipv6.Ipv6Net.from_bytes.Goals as goal

pub returns-in-Ok : goal.returns-in-Ok
returns-in-Ok c =
    let parts = c.in-Ok.ensures.parts in
    read_net c.args.bytes.now _ c.in-Ok.net c.from_be_bytes.result c.if-bytes-ne17.false (λ k. omega (arith, c.type_inv.bytes k)) c.copy_from_slice.ensures.after c.from_be_bytes.ensures (omega arith) (ap Network.number parts ∙ c.ipv6_of.ensures) (ap Network.len parts) (omega arith)
