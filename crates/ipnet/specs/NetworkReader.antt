-- The functions that the network reader computes. The theorem `network_texts` says that they read the grammar.
use Rattle.std.specs.Prelude.{ℕ, List, Option, Some, None, ◌==◌, length, if◌then◌else◌, option_and_then}
use Rattle.std.specs.Int.Digits.{number_from_digits}
use Rattle.std.specs.Net.Reader.{Read, read_byte}
use Rattle.ipnet_addr.specs.AddressReader.{read_short, read_ipv4, read_ipv6}
use Rattle.ipnet_blocks.specs.Networks.{Network}

-- applies f to the value, if there is one
infixl 10 ◌>>=◌
abbrev ◌>>=◌ : {A B : Type 0} → Option A → (A → Option B) → Option B
o >>= f = option_and_then f o

-- an address, a slash and a length, to the end of the text
unfoldable pub read_network : Read (List ℕ) → ℕ → ℕ → Option (List ℕ × ℕ)
read_network address digits max = do
  parts ← address
  after_slash ← read_byte 47 parts.1
  len ← read_short 10 digits max after_slash
  if length len.1 == 0 then Some (parts.0, len.0) else None

-- the network whose address has these digits in this base
abbrev pub network_of : ℕ → Option (List ℕ × ℕ) → Option Network
network_of base read = do
  parts ← read
  Some (record { number = number_from_digits base parts.0; len = parts.1 })

-- the IPv4 network that a text spells, if it spells one
unfoldable pub ipv4_net_of : List ℕ → Option Network
ipv4_net_of text = network_of 256 (read_network (read_ipv4 text) 2 32)

-- the IPv6 network that a text spells, if it spells one
unfoldable pub ipv6_net_of : List ℕ → Option Network
ipv6_net_of text = network_of 65536 (read_network (read_ipv6 text) 3 128)
