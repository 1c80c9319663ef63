use Rattle.std.proofs.Common.{ap, arith}
use Rattle.ipnet_addr.specs.Addresses.{Ipv4}
use Rattle.ipnet_blocks.specs.Cuts.{Limits}
use Rattle.ipnet_blocks.proofs.Cuts.{cut_end}
use Rattle.route_table.proofs.governed.no_blocks.Goals as goal

pub returns : goal.returns
returns c =
    let l = c.new.ensures.limits in
    cut_end Ipv4 c.new.result (let s = ap (λ (m : Limits). m.start) l in let e = ap (λ (m : Limits). m.end) l in omega (arith, s, e, c.ipv4_of.ensures, c.ipv4_of-2.ensures))
