-- Networks of either family, by their parts.
use Rattle.std.proofs.Common.{List, MatchOption, Option, Some, None, ◌≡◌, ℕ, ◌<◌, ◌≤◌, ◌↔◌, Result, Ok, Err, refl, sym, ap, ◌∙◌, subst, arith, inl, inr}
use Rattle.std.specs.Result.{IsOk, IfOk, MatchResult}
use Rattle.std.proofs.lemmas.Bool.{cases_lt}
use Rattle.ipnet_addr.specs.Addresses.{Family, Ipv4, Ipv6, Address, width}
use Rattle.ipnet_addr.specs.Masks.{IsMask}
use Rattle.ipnet_addr.proofs.Powers.{mask_unique}
use Rattle.ipnet_blocks.specs.Networks.{Network}
use Rattle.ipnet.specs.NetworkText.{ReadsIpv4, ReadsIpv6}
use Rattle.ipnet.specs.NetworkReader.{ipv4_net_of, ipv6_net_of}
use Rattle.ipnet.specs.IpNets.{family, parts, net_in}
use Rattle.ipnet.specs.IpNetText.{Reads, either_net, ip_net_of}
use Rattle.ipnet.specs.declared.ip_net.IpNet.{IpNet}
use Rattle.ipnet.specs.declared.ip_net.IpNet.TheVariants.{V4, V6}
use Rattle.ipnet.proofs.Ipv4Networks.{v4_unique, v4_found}
use Rattle.ipnet.proofs.Ipv6Networks.{v6_unique, v6_found, not_both}

pub net_family : (f : Family) (n : Network) → family (net_in f n) ≡ f
net_family Ipv4 n = refl
net_family Ipv6 n = refl

net_parts : (f : Family) (n : Network) → parts (net_in f n) ≡ n
net_parts Ipv4 n = refl
net_parts Ipv6 n = refl

-- the network of an address and the length of a mask, if the address has as many bits
pub with_mask : {E : Type 0} (r : Result IpNet E) (a m : Address) (len : ℕ) → IsMask m len → IsOk r ↔ (len ≤ width a.family)
    → IfOk r (λ n. n ≡ net_in a.family (record { number = a.number; len = len }))
    → MatchResult r (λ n. (family n ≡ a.family) × ((parts n).number ≡ a.number) × IsMask m (parts n).len) (λ _. (other : ℕ) → IsMask m other → width a.family < other)
with_mask (Ok n) a m len mask fits is =
    let p : parts n ≡ record { number = a.number; len = len } = ap parts is ∙ net_parts a.family (record { number = a.number; len = len }) in
    (ap family is ∙ net_family a.family (record { number = a.number; len = len }), ap Network.number p, subst (λ k. IsMask m k) (sym (ap Network.len p)) mask)
with_mask (Err e) a m len mask fits is = λ other k.
    let same : other ≡ len = mask_unique (width m.family) other len k.0 mask.0 (sym k.1 ∙ mask.1) in
    elim (cases_lt (width a.family) other) [
      | inl less ↦ less
      | inr more ↦ let wrong = fits.1 (omega arith) in cc
    ]

-- a text spells one network at most
pub ip_unique : (text : List ℕ) (m n : IpNet) → Reads text m → Reads text n → m ≡ n
ip_unique text (V4 m) (V4 n) h k = ap V4 (v4_unique text m n h k)
ip_unique text (V4 m) (V6 n) h k = absurd (not_both text m n h k)
ip_unique text (V6 m) (V4 n) h k = absurd (not_both text n m k h)
ip_unique text (V6 m) (V6 n) h k = ap V6 (v6_unique text m n h k)

-- what a text spells, by the function that computes it
pub ip_found : (text : List ℕ) → MatchOption (ip_net_of text) ((n : IpNet) → Reads text n → ⊥) (Reads text)
unfolding ip_net_of
ip_found text = go (ipv4_net_of text) (ipv6_net_of text) (v4_found text) (v6_found text)
  where
    go : (a b : Option Network) → MatchOption a ((n : Network) → ReadsIpv4 text n → ⊥) (ReadsIpv4 text) → MatchOption b ((n : Network) → ReadsIpv6 text n → ⊥) (ReadsIpv6 text)
        → MatchOption (either_net a b) ((n : IpNet) → Reads text n → ⊥) (Reads text)
    go (Some m) b h k = h
    go None (Some n) h k = k
    go None None h k = none
      where
        none : (n : IpNet) → Reads text n → ⊥
        none (V4 n) r = h n r
        none (V6 n) r = k n r
