-- IPv6 networks: the reader reads the grammar, and what is printed reads as what was printed. No text is a network of both families.
use Rattle.std.proofs.Common.{◌≡◌, ℕ, ◌<◌, ◌≤◌, ◌^◌, List, [], ◌∷◌, ◌++◌, Some, None, refl, sym, ◌∙◌, arith, lit≤, MatchOption, append_assoc}
use Rattle.std.specs.Int.{w128, to_be_bytes}
use Rattle.std.specs.Net.Addr.{ipv6_segments, ipv6_bits, segments_of}
use Rattle.std.specs.declared.net.ipv6_addr.Ipv6Addr.{Ipv6Addr}
use Rattle.ipnet_addr.specs.AddressText.{IsIpv6}
use Rattle.ipnet_addr.specs.AddressReader.{read_ipv6}
use Rattle.ipnet_addr.proofs.Ipv4Text.{decimal_short}
use Rattle.ipnet_addr.proofs.Ipv6Text.{EndsGroups, read_ipv6_sound, read_ipv6_complete, IsIpv6-ipv6_text, ipv4-not_ipv6, ipv6_units}
use Rattle.ipnet_addr.proofs.Numbers.{segments_number, segments_small, units_bits}
use Rattle.ipnet_blocks.specs.Networks.{Network}
use Rattle.ipnet.specs.NetworkText.{ReadsIpv4, ReadsIpv6, ipv6_net_text}
use Rattle.ipnet.specs.NetworkReader.{read_network, ipv6_net_of}
use Rattle.ipnet.proofs.NetworkReader.{read_network_sound, spells_unique, spells_found, spells_read, spells_not_read}

slash : (rest : List ℕ) → EndsGroups (47 ∷ rest)
slash rest = ((lit≤ tt, omega arith), λ colon. absurd (omega arith))

at_slash : (text units rest : List ℕ) → IsIpv6 text units → read_ipv6 (text ++ 47 ∷ rest) ≡ Some (units, 47 ∷ rest)
at_slash text units rest h = read_ipv6_complete text units (47 ∷ rest) h (slash rest)

pub v6_unique : (text : List ℕ) (m n : Network) → ReadsIpv6 text m → ReadsIpv6 text n → m ≡ n
v6_unique = spells_unique IsIpv6 3 128 read_ipv6 read_ipv6_sound at_slash 65536

-- what a text spells, by the function that computes it
pub v6_found : (text : List ℕ) → MatchOption (ipv6_net_of text) ((n : Network) → ReadsIpv6 text n → ⊥) (ReadsIpv6 text)
unfolding ipv6_net_of
v6_found = spells_found IsIpv6 3 128 read_ipv6 read_ipv6_sound at_slash 65536

-- the network with the parts that are read
pub v6_read : (text : List ℕ) (a : Ipv6Addr) (len : ℕ) → read_network (read_ipv6 text) 3 128 ≡ Some (ipv6_segments a, len) → ReadsIpv6 text (record { number = ipv6_bits a; len = len })
v6_read text a len e =
    let h = read_network_sound IsIpv6 3 128 read_ipv6 read_ipv6_sound at_slash text (ipv6_segments a) len e in
    spells_read IsIpv6 3 128 read_ipv6 read_ipv6_sound at_slash 65536 text (ipv6_segments a) (ipv6_bits a) len (units_bits a (ipv6_units _ _ h.address)) e

pub v6_not_read : (text : List ℕ) → read_network (read_ipv6 text) 3 128 ≡ None → (n : Network) → ReadsIpv6 text n → ⊥
v6_not_read = spells_not_read IsIpv6 3 128 read_ipv6 read_ipv6_sound at_slash 65536

-- what is printed reads as what was printed
pub v6_reads_text : (n : Network) → n.number < 2 ^ 128 → n.len ≤ 128 → ReadsIpv6 (ipv6_net_text n) n
v6_reads_text n fits within = record {
  parts = segments_of (to_be_bytes w128 n.number);
  spelled = record {
    address_text = _;
    length_text = _;
    spelled = refl;
    address = IsIpv6-ipv6_text (segments_of (to_be_bytes w128 n.number)) refl (segments_small n.number);
    prefix = decimal_short 3 128 n.len within (omega arith) (omega arith) (omega arith);
  };
  number = sym (segments_number n.number fits);
}

-- no text is both
pub not_both : (text : List ℕ) (m n : Network) → ReadsIpv4 text m → ReadsIpv6 text n → ⊥
not_both text m n h k =
    let a = h.spelled in
    let b = k.spelled in
    let same : a.address_text ++ 47 ∷ a.length_text ≡ b.address_text ++ 47 ∷ b.length_text = sym (append_assoc a.address_text (47 ∷ []) a.length_text) ∙ sym a.spelled ∙ b.spelled ∙ append_assoc b.address_text (47 ∷ []) b.length_text in
    ipv4-not_ipv6 a.address_text b.address_text (47 ∷ a.length_text) (47 ∷ b.length_text) h.parts k.parts a.address b.address (slash a.length_text) (slash b.length_text) (omega arith) same
