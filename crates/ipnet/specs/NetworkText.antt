-- The texts of networks: those that spell a network, and the printed one.
use Rattle.std.specs.Prelude.{◌≡◌, ℕ, List, ◌++◌, codes, decimal}
use Rattle.std.specs.Int.{w32, w128, to_be_bytes}
use Rattle.std.specs.Int.Digits.{number_from_digits}
use Rattle.std.specs.Net.Addr.{segments_of}
use Rattle.std.specs.Net.Text.{ipv4_text, ipv6_text}
use Rattle.ipnet_addr.specs.AddressText.{IsShort, IsIpv4, IsIpv6}
use Rattle.ipnet_blocks.specs.Networks.{Network}

-- An address, a slash and a length, with nothing before or after. `Address` relates texts and addresses, `Length` texts and lengths.
pub record SpellsParts (Address : List ℕ → List ℕ → Type 0) (Length : List ℕ → ℕ → Type 0) (text parts : List ℕ) (len : ℕ) : Type 0 where
  pub address_text : List ℕ
  pub length_text : List ℕ
  pub spelled : text ≡ address_text ++ codes "/" ++ length_text
  pub address : Address address_text parts
  pub prefix : Length length_text len

-- The text spells this network, with its host bits: the number's digits in this base are spelled, and the length is at most `max` and has
-- at most `digits` digits.
pub record Spells (Address : List ℕ → List ℕ → Type 0) (base digits max : ℕ) (text : List ℕ) (n : Network) : Type 0 where
  pub parts : List ℕ
  pub spelled : SpellsParts Address (IsShort 10 digits max) text parts n.len
  pub number : n.number ≡ number_from_digits base parts

-- an IPv4 network: four octets, and a length of one or two digits, at most 32
abbrev pub ReadsIpv4 : List ℕ → Network → Type 0
ReadsIpv4 = Spells IsIpv4 256 2 32

-- an IPv6 network: eight units, and a length of one to three digits, at most 128
abbrev pub ReadsIpv6 : List ℕ → Network → Type 0
ReadsIpv6 = Spells IsIpv6 65536 3 128

-- the printed text: the octets of the number in decimal, a slash and the length
abbrev pub ipv4_net_text : Network → List ℕ
ipv4_net_text n = ipv4_text (to_be_bytes w32 n.number) ++ codes "/" ++ decimal n.len

-- the printed text of an IPv6 network: the units of the number as in RFC 5952, a slash and the length
abbrev pub ipv6_net_text : Network → List ℕ
ipv6_net_text n = ipv6_text (segments_of (to_be_bytes w128 n.number)) ++ codes "/" ++ decimal n.len
