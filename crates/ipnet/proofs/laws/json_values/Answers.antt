use Rattle.std.proofs.Common.{refl}
use Rattle.ipnet.specs.NetworkText.{ReadsIpv4, ReadsIpv6}
use Rattle.ipnet.specs.IpNetText.{Reads}
use Rattle.ipnet.proofs.FormLaws.{spelled_back, value_unique}
use Rattle.ipnet.proofs.Ipv4Networks.{v4_unique, v4_reads_text}
use Rattle.ipnet.proofs.Ipv6Networks.{v6_unique, v6_reads_text}
use Rattle.ipnet.proofs.IpNetworks.{ip_unique}
use Rattle.ipnet.proofs.laws.json_values.Goals as goal

pub returns : goal.returns
returns c = record {
  v4 = value_unique ReadsIpv4 v4_unique;
  v6 = value_unique ReadsIpv6 v6_unique;
  either = value_unique Reads ip_unique;
  back_v4 = λ n h. record { text = _; is = refl; reads = v4_reads_text n h.in_range h.in_width };
  back_v6 = λ n h. record { text = _; is = refl; reads = v6_reads_text n h.in_range h.in_width };
  back_either = spelled_back;
}
