use Rattle.std.proofs.Common.{◌≡◌, ap, ◌∙◌, arith, append_assoc}
use Rattle.std.specs.Int.{w32, to_be_bytes}
use Rattle.std.specs.Net.Addr.{ipv4_octets}
use Rattle.ipnet_addr.proofs.Numbers.{octets_of_bits}
use Rattle.ipnet.proofs.Ipv4Networks.{v4_reads_text}
use Rattle.ipnet.proofs.ipv4.Ipv4Net.push_text.Goals as goal

pub returns-clause-text : goal.returns-clause-text
returns-clause-text g c =
    let octets : ipv4_octets c.addr.result ≡ to_be_bytes w32 c.args.self.now.number = octets_of_bits _ c.push_ipv4.ensures.octets ∙ ap (to_be_bytes w32) c.addr.ensures.value in
    rw (c.push_decimal.ensures.bytes, c.push.ensures.items, c.push_ipv4.ensures.bytes, c.prefix_len.ensures.value, octets) (simp append_assoc)

pub returns-clause-reads : goal.returns-clause-reads
returns-clause-reads g c = v4_reads_text c.args.self.now c.addr.ensures.within (omega arith)
