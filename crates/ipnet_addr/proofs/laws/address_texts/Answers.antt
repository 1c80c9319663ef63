use Rattle.ipnet_addr.proofs.AddressTexts.{short_is_read, ipv4_is_read, ipv6_is_read}
use Rattle.ipnet_addr.proofs.laws.address_texts.Goals as goal

pub returns : goal.returns
returns c = record { short = short_is_read; v4 = ipv4_is_read; v6 = ipv6_is_read }
