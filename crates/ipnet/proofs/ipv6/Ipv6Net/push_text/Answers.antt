use Rattle.std.proofs.Common.{◌≡◌, arith, append_assoc}
use Rattle.std.specs.Int.{w128, to_be_bytes}
use Rattle.std.specs.Net.Addr.{ipv6_segments, segments_of}
use Rattle.ipnet_addr.proofs.Numbers.{segments_of_bits}
use Rattle.ipnet.proofs.Ipv6Networks.{v6_reads_text}
use Rattle.ipnet.proofs.ipv6.Ipv6Net.push_text.Goals as goal

pub returns-clause-text : goal.returns-clause-text
returns-clause-text g c =
    let units : ipv6_segments c.addr.result ≡ segments_of (to_be_bytes w128 c.args.self.now.number) = segments_of_bits _ _ c.push_ipv6.ensures.units c.addr.ensures.value c.addr.ensures.within in
    rw (c.push_decimal.ensures.bytes, c.push.ensures.items, c.push_ipv6.ensures.bytes, c.prefix_len.ensures.value, units) (simp append_assoc)

pub returns-clause-reads : goal.returns-clause-reads
returns-clause-reads g c = v6_reads_text c.args.self.now c.addr.ensures.within (omega arith)
