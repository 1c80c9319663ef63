-- The texts of networks of either family.
use Rattle.std.specs.Prelude.{ℕ, List, Option, Some, None, option_map}
use Rattle.ipnet.specs.NetworkText.{ReadsIpv4, ReadsIpv6, ipv4_net_text, ipv6_net_text}
use Rattle.ipnet_blocks.specs.Networks.{Network}
use Rattle.ipnet.specs.NetworkReader.{ipv4_net_of, ipv6_net_of}
use Rattle.ipnet.specs.declared.ip_net.IpNet.{IpNet}
use Rattle.ipnet.specs.declared.ip_net.IpNet.TheVariants.{V4, V6}

-- the text spells this network, with its host bits
abbrev pub Reads : List ℕ → IpNet → Type 0
Reads text (V4 n) = ReadsIpv4 text n
Reads text (V6 n) = ReadsIpv6 text n

-- the printed text
abbrev pub net_text : IpNet → List ℕ
net_text (V4 n) = ipv4_net_text n
net_text (V6 n) = ipv6_net_text n

-- the IPv4 network if there is one, else the IPv6 network
abbrev pub either_net : Option Network → Option Network → Option IpNet
either_net (Some n) other = Some (V4 n)
either_net None other = option_map V6 other

-- the network that a text spells, if it spells one
unfoldable pub ip_net_of : List ℕ → Option IpNet
ip_net_of text = either_net (ipv4_net_of text) (ipv6_net_of text)
