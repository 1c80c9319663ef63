-- No bytes and no value are those of two networks, and what is written is read back.
use Rattle.std.proofs.Common.{◌≡◌, ℕ, List, take, drop, get_or, refl, sym, ap, ◌∙◌, subst, arith}
use Rattle.std.specs.Int.Digits.{number_from_digits}
use Rattle.serde_json.specs.Data.{Data, string}
use Rattle.ipnet_addr.proofs.Numbers.{octets_number}
use Rattle.ipnet_blocks.specs.Networks.{Network, IsNetwork}
use Rattle.ipnet.specs.Forms.{HoldsIpv4, HoldsIpv6, Holds, ipv4_net_bytes, ipv6_net_bytes, IsStringOf}
use Rattle.ipnet.specs.IpNets.{family, parts}
use Rattle.ipnet.specs.IpNetText.{Reads, net_text}
use Rattle.ipnet.specs.declared.ip_net.IpNet.{IpNet}
use Rattle.ipnet.specs.declared.ip_net.IpNet.TheVariants.{V4, V6}
use Rattle.ipnet.proofs.Ipv4Networks.{v4_reads_text}
use Rattle.ipnet.proofs.Ipv6Networks.{v6_reads_text}
use Rattle.ipnet.proofs.SixteenOctets.{octets_write}

same_net : (m n : Network) → m.number ≡ n.number → m.len ≡ n.len → m ≡ n
same_net m n p q = λ i. record { number = p i; len = q i }

pub v4_bytes_unique : (bytes : List ℕ) (m n : Network) → HoldsIpv4 bytes m → HoldsIpv4 bytes n → m ≡ n
v4_bytes_unique bytes m n h k =
    let e : ipv4_net_bytes m ≡ ipv4_net_bytes n = sym h.0 ∙ k.0 in
    let a = octets_number m.number h.1.in_range in
    let b = octets_number n.number k.1.in_range in
    same_net m n (sym a ∙ ap (λ l. number_from_digits 256 (take 4 l)) e ∙ b) (ap (λ l. get_or l 4 0) e)

pub v6_bytes_unique : (bytes : List ℕ) (m n : Network) → HoldsIpv6 bytes m → HoldsIpv6 bytes n → m ≡ n
v6_bytes_unique bytes m n h k =
    let e : ipv6_net_bytes m ≡ ipv6_net_bytes n = sym h.0 ∙ k.0 in
    let a = octets_write m.number h.1.in_range in
    let b = octets_write n.number k.1.in_range in
    same_net m n (sym a ∙ ap (λ l. number_from_digits 256 (take 16 l)) e ∙ b) (ap (λ l. get_or l 16 0) e)

pub bytes_unique : (bytes : List ℕ) (m n : IpNet) → Holds bytes m → Holds bytes n → m ≡ n
bytes_unique bytes (V4 m) (V4 n) h k = ap V4 (v4_bytes_unique (drop 1 bytes) m n (ap (drop 1) h.0, h.1) (ap (drop 1) k.0, k.1))
bytes_unique bytes (V4 m) (V6 n) h k = absurd (let first : 0 ≡ 1 = ap (λ l. get_or l 0 0) (sym h.0 ∙ k.0) in omega arith)
bytes_unique bytes (V6 m) (V4 n) h k = absurd (let first : 1 ≡ 0 = ap (λ l. get_or l 0 0) (sym h.0 ∙ k.0) in omega arith)
bytes_unique bytes (V6 m) (V6 n) h k = ap V6 (v6_bytes_unique (drop 1 bytes) m n (ap (drop 1) h.0, h.1) (ap (drop 1) k.0, k.1))

-- a value spells one network, where a text does
pub value_unique : {N : Type 0} (Reads : List ℕ → N → Type 0) → ((text : List ℕ) (m n : N) → Reads text m → Reads text n → m ≡ n)
    → (value : Data) (m n : N) → IsStringOf Reads value m → IsStringOf Reads value n → m ≡ n
value_unique Reads one value m n h k =
    let both : string k.text ≡ string h.text = sym k.is ∙ h.is in
    let same : k.text ≡ h.text = cc in
    one h.text m n h.reads (subst (λ t. Reads t n) same k.reads)

-- the string of a network's text spells it
pub spelled_back : (n : IpNet) → IsNetwork (family n) (parts n) → IsStringOf Reads (string (net_text n)) n
spelled_back (V4 n) h = record { text = _; is = refl; reads = v4_reads_text n h.in_range h.in_width }
spelled_back (V6 n) h = record { text = _; is = refl; reads = v6_reads_text n h.in_range h.in_width }
