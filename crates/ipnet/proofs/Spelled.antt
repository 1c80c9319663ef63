-- A network that a text spells is in range, and its printed text spells it.
use Rattle.std.proofs.Common.{◌≡◌, ℕ, ◌+◌, ◌-◌, ◌*◌, ◌^◌, ◌<◌, Bool, true, false, List, [], ◌∷◌, ◌++◌, length, replicate, All, inl, inr, sym, subst, arith, refl}
use Rattle.std.specs.Int.Digits.{number_from_digits}
use Rattle.std.specs.Net.Addr.{segments_of}
use Rattle.std.proofs.lemmas.Int.Digits.{number_lt}
use Rattle.std.proofs.lemmas.List.Elements.{All-nil, All-cons, All-append, All-replicate, recursion_from_All}
use Rattle.ipnet_addr.specs.Addresses.{Family, Ipv4, Ipv6}
use Rattle.ipnet_addr.specs.AddressText.{IsIpv4, IsIpv6, IsUnitsAfter}
use Rattle.ipnet_addr.proofs.Ipv6Text.{ipv6_units}
use Rattle.ipnet_blocks.specs.Blocks.{Block, IsBlock, first_of}
use Rattle.ipnet_blocks.specs.Networks.{Network, IsNetwork, net_of}
use Rattle.ipnet_blocks.proofs.BlockLaws.{has_first}
use Rattle.ipnet_blocks.proofs.Maximals.{member_is_address}
use Rattle.ipnet_blocks.proofs.NetworkBlocks.{block_is}
use Rattle.ipnet.specs.IpNets.{block, family, parts, net_in, network_at}
use Rattle.ipnet.specs.IpNetText.{net_text, Reads}
use Rattle.ipnet.specs.declared.ip_net.IpNet.{IpNet}
use Rattle.ipnet.specs.declared.ip_net.IpNet.TheVariants.{V4, V6}
use Rattle.ipnet.proofs.Ipv4Networks.{v4_reads_text}
use Rattle.ipnet.proofs.Ipv6Networks.{v6_reads_text}

abbrev Below : ℕ → List ℕ → Type 0
Below base xs = All (λ d. d < base) xs

octets_below : (text octets : List ℕ) → IsIpv4 text octets → Below 256 octets × (length octets ≡ 4)
octets_below text octets h =
    let p : ℕ → Type 0 = λ d. d < 256 in
    subst (λ os. Below 256 os × (length os ≡ 4)) (sym h.value) (
      All-cons p h.a (h.b ∷ h.c ∷ h.d ∷ []) (omega (arith, h.is_a.fits)) (All-cons p h.b (h.c ∷ h.d ∷ []) (omega (arith, h.is_b.fits)) (All-cons p h.c (h.d ∷ []) (omega (arith, h.is_c.fits)) (All-cons p h.d [] (omega (arith, h.is_d.fits)) (All-nil p)))),
      refl,
    )

segments_below : (text octets : List ℕ) → IsIpv4 text octets → Below 65536 (segments_of octets)
segments_below text octets h =
    let p : ℕ → Type 0 = λ d. d < 65536 in
    subst (λ os. Below 65536 (segments_of os)) (sym h.value)
    (All-cons p (h.a * 256 + h.b) ((h.c * 256 + h.d) ∷ []) (omega (arith, h.is_a.fits, h.is_b.fits)) (All-cons p (h.c * 256 + h.d) [] (omega (arith, h.is_c.fits, h.is_d.fits)) (All-nil p)))

units_below : (dotted : Bool) (lead text us : List ℕ) → IsUnitsAfter dotted lead text us → Below 65536 us
units_below dotted lead text [] h = All-nil (λ d. d < 65536)
units_below dotted lead text (u ∷ us) (inl h) = All-cons (λ d. d < 65536) u us (omega (arith, h.3.fits)) (units_below dotted (58 ∷ []) h.1 us h.4)
units_below dotted lead text (u ∷ us) (inr h) = subst (Below 65536) (sym h.5) (segments_below h.0 h.1 h.4)

ipv6_below : (text us : List ℕ) → IsIpv6 text us → Below 65536 us
ipv6_below text us (inl h) = units_below true [] text us h.0
ipv6_below text us (inr h) =
    let p : ℕ → Type 0 = λ d. d < 65536 in
    let gap = 8 - length h.head - length h.tail in
    subst (Below 65536) (sym h.value)
    (All-append p (h.head ++ replicate gap 0) h.tail
    (All-append p h.head (replicate gap 0) (units_below false [] h.head_text h.head h.head_units) (All-replicate p gap 0 (omega arith)))
    (units_below true [] h.tail_text h.tail h.tail_units))

in_range : (base count : ℕ) (xs : List ℕ) → Below base xs → length xs ≡ count → number_from_digits base xs < base ^ count
in_range base count xs h e = subst (λ k. number_from_digits base xs < base ^ k) e (number_lt base xs (recursion_from_All (λ d. d < base) xs h))

-- a network that a text spells is one
pub read_is_network : (text : List ℕ) (n : IpNet) → Reads text n → IsNetwork (family n) (parts n)
read_is_network text (V4 n) h =
    let o = octets_below h.spelled.address_text h.parts h.spelled.address in
    record { in_width = h.spelled.prefix.fits; in_range = subst (λ k. k < 2 ^ 32) (sym h.number) (in_range 256 4 h.parts o.0 o.1) }
read_is_network text (V6 n) h =
    let u = ipv6_below h.spelled.address_text h.parts h.spelled.address in
    let e = ipv6_units h.spelled.address_text h.parts h.spelled.address in
    record { in_width = h.spelled.prefix.fits; in_range = subst (λ k. k < 2 ^ 128) (sym h.number) (in_range 65536 8 h.parts u e) }

block_is_network : (b : Block) → IsBlock b → IsNetwork b.family (net_of b)
block_is_network b ok = record { in_width = ok.in_width; in_range = member_is_address b (first_of b) ok (has_first b) }

-- the printed text of the network of a block spells it
pub net_reads : (b : Block) → IsBlock b → Reads (net_text (network_at b)) (network_at b)
net_reads b ok = go b.family (net_of b) (block_is_network b ok)
  where
    go : (f : Family) (n : Network) → IsNetwork f n → Reads (net_text (net_in f n)) (net_in f n)
    go Ipv4 n h = v4_reads_text n h.in_range h.in_width
    go Ipv6 n h = v6_reads_text n h.in_range h.in_width

-- so does that of a network that a text spells, its host bits cleared
pub cut_reads : (text : List ℕ) (n : IpNet) → Reads text n → Reads (net_text (network_at (block n))) (network_at (block n))
cut_reads text n h = net_reads (block n) (block_is (family n) (parts n) (read_is_network text n h))
