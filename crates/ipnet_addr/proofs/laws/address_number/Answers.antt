use Rattle.ipnet_addr.proofs.Numbers.{ipv4_number, ipv6_number}
use Rattle.ipnet_addr.proofs.laws.address_number.Goals as goal

pub returns : goal.returns
returns c = record { v4 = ipv4_number; v6 = ipv6_number }
