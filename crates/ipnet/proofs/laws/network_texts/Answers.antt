use Rattle.ipnet.proofs.Ipv4Networks.{v4_unique, v4_found}
use Rattle.ipnet.proofs.Ipv6Networks.{v6_unique, v6_found, not_both}
use Rattle.ipnet.proofs.IpNetworks.{ip_unique, ip_found}
use Rattle.ipnet.proofs.laws.network_texts.Goals as goal

pub returns : goal.returns
returns c = record {
  v4 = v4_unique;
  v6 = v6_unique;
  either = ip_unique;
  not_both = not_both;
  found_v4 = v4_found;
  found_v6 = v6_found;
  found = ip_found;
}
