use Rattle.ipnet_addr.proofs.Numbers.{same_ipv4, same_ipv6}
use Rattle.ipnet_addr.proofs.laws.same_number.Goals as goal

pub returns : goal.returns
returns c = record { v4 = same_ipv4; v6 = same_ipv6 }
