-- The functions that the address reader computes. The theorem `address_texts` says that they read the grammar.
use Rattle.std.specs.Prelude.{ℕ, zero, suc, ◌-◌, Bool, true, false, List, [], ◌∷◌, ◌++◌, length, drop, replicate, Option, Some, None, ◌==◌, nat_lt, if◌then◌else◌, option_and_then}
use Rattle.std.specs.Net.Addr.{segments_of}
use Rattle.std.specs.Net.Reader.{Read, read_byte, read_number, read_separator, map_or, Segments, after, dot, colon}

-- applies f to the value, if there is one
infixl 10 ◌>>=◌
abbrev ◌>>=◌ : {A B : Type 0} → Option A → (A → Option B) → Option B
o >>= f = option_and_then f o

-- a number of at most `digits` digits
unfoldable pub read_short : ℕ → ℕ → ℕ → List ℕ → Read ℕ
read_short radix digits max text = do
  n ← read_number radix max text
  if nat_lt digits n.1 then None else Some (n.0, drop n.1 text)

-- one to three decimal digits
abbrev pub read_octet : List ℕ → Read ℕ
read_octet text = read_short 10 3 255 text

-- four octets with dots between them
unfoldable pub read_ipv4 : List ℕ → Read (List ℕ)
read_ipv4 text = do
  a ← read_octet text
  after_a ← read_byte dot a.1
  b ← read_octet after_a
  after_b ← read_byte dot b.1
  c ← read_octet after_b
  after_c ← read_byte dot c.1
  d ← read_octet after_c
  Some (a.0 ∷ b.0 ∷ c.0 ∷ d.0 ∷ [], d.1)

-- one to four hex digits
abbrev pub read_group : List ℕ → Read ℕ
read_group text = read_short 16 4 0xffff text

-- an IPv4 address at the end of an IPv6 address, if it fits
abbrev pub read_ipv4_if : Bool → List ℕ → Read (List ℕ)
read_ipv4_if fits text = if fits then read_ipv4 text else None

-- at most this many units, whether an IPv4 address ends them, and the text after them
unfoldable pub read_units : ℕ → Bool → List ℕ → Segments
read_units zero first text = ([], false, text)
read_units (suc room) first text =
    map_or (read_separator first text) ([], false, text) λ group.
    map_or (read_ipv4_if (nat_lt 0 room) group)
    (map_or (read_group group) ([], false, text) λ u. after (u.0 ∷ [])
    (read_units room false u.1))
    λ ip. (segments_of ip.0, true, ip.1)

-- the text after a head of fewer than eight units
abbrev pub read_tail : List ℕ → List ℕ → Read (List ℕ)
read_tail head text = do
  one ← read_byte colon text
  two ← read_byte colon one
  let tail = read_units (8 - length head) true two
  Some (head ++ replicate (8 - length head - length tail.0) 0 ++ tail.0, tail.2)

-- an IPv6 address
unfoldable pub read_ipv6 : List ℕ → Read (List ℕ)
read_ipv6 text =
    let head = read_units 8 true text in
    if length head.0 == 8 then Some (head.0, head.2)
    else (if head.1 then None else read_tail head.0 head.2)
