-- IPv4 networks: the reader reads the grammar, and what is printed reads as what was printed.
use Rattle.std.proofs.Common.{◌≡◌, ℕ, zero, suc, ◌<◌, ◌≤◌, ◌^◌, List, ◌∷◌, ◌++◌, get_or, Some, None, refl, sym, arith, lit≤, MatchOption}
use Rattle.std.specs.Int.{w32, to_be_bytes}
use Rattle.std.specs.Net.Addr.{ipv4_octets, ipv4_bits}
use Rattle.std.specs.declared.net.ipv4_addr.Ipv4Addr.{Ipv4Addr}
use Rattle.ipnet_addr.specs.AddressText.{IsIpv4}
use Rattle.ipnet_addr.specs.AddressReader.{read_ipv4}
use Rattle.ipnet_addr.proofs.Ipv4Text.{read_ipv4_sound, read_ipv4_complete, decimal_short, IsIpv4-ipv4_text}
use Rattle.ipnet_addr.proofs.Numbers.{octets_number, parts_number}
use Rattle.ipnet_blocks.specs.Networks.{Network}
use Rattle.ipnet.specs.NetworkText.{ReadsIpv4, ipv4_net_text}
use Rattle.ipnet.specs.NetworkReader.{read_network, ipv4_net_of}
use Rattle.ipnet.proofs.NetworkReader.{read_network_sound, spells_unique, spells_found, spells_read, spells_not_read}

at_slash : (text octets rest : List ℕ) → IsIpv4 text octets → read_ipv4 (text ++ 47 ∷ rest) ≡ Some (octets, 47 ∷ rest)
at_slash text octets rest h = read_ipv4_complete text octets (47 ∷ rest) h (lit≤ tt)

pub v4_unique : (text : List ℕ) (m n : Network) → ReadsIpv4 text m → ReadsIpv4 text n → m ≡ n
v4_unique = spells_unique IsIpv4 2 32 read_ipv4 read_ipv4_sound at_slash 256

-- what a text spells, by the function that computes it
pub v4_found : (text : List ℕ) → MatchOption (ipv4_net_of text) ((n : Network) → ReadsIpv4 text n → ⊥) (ReadsIpv4 text)
unfolding ipv4_net_of
v4_found = spells_found IsIpv4 2 32 read_ipv4 read_ipv4_sound at_slash 256

-- the network with the parts that are read
pub v4_read : (text : List ℕ) (a : Ipv4Addr) (len : ℕ) → read_network (read_ipv4 text) 2 32 ≡ Some (ipv4_octets a, len) → ReadsIpv4 text (record { number = ipv4_bits a; len = len })
v4_read text a len e =
    let h = read_network_sound IsIpv4 2 32 read_ipv4 read_ipv4_sound at_slash text (ipv4_octets a) len e in
    spells_read IsIpv4 2 32 read_ipv4 read_ipv4_sound at_slash 256 text (ipv4_octets a) (ipv4_bits a) len (parts_number a _ _ _ _ h.address.value) e

pub v4_not_read : (text : List ℕ) → read_network (read_ipv4 text) 2 32 ≡ None → (n : Network) → ReadsIpv4 text n → ⊥
v4_not_read = spells_not_read IsIpv4 2 32 read_ipv4 read_ipv4_sound at_slash 256

-- the four octets of a number
octets_small : (n : ℕ) (k : ℕ) → get_or (to_be_bytes w32 n) k 0 < 2 ^ 8
octets_small n zero = omega arith
octets_small n (suc zero) = omega arith
octets_small n (suc (suc zero)) = omega arith
octets_small n (suc (suc (suc zero))) = omega arith
octets_small n (suc (suc (suc (suc k)))) = omega arith

-- what is printed reads as what was printed
pub v4_reads_text : (n : Network) → n.number < 2 ^ 32 → n.len ≤ 32 → ReadsIpv4 (ipv4_net_text n) n
v4_reads_text n fits within = record {
  parts = to_be_bytes w32 n.number;
  spelled = record {
    address_text = _;
    length_text = _;
    spelled = refl;
    address = IsIpv4-ipv4_text (to_be_bytes w32 n.number) refl (octets_small n.number);
    prefix = decimal_short 2 32 n.len within (omega arith) (omega arith) (omega arith);
  };
  number = sym (octets_number n.number fits);
}
