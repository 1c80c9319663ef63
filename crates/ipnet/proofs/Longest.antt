-- The longest text of a network has 51 bytes.
use Rattle.std.proofs.Common.{◌≡◌, ℕ, ◌+◌, ◌*◌, ◌-◌, ◌≤◌, Bool, true, false, List, [], ◌∷◌, ◌++◌, length, inl, inr, arith, codes, ap, sym, true≢false, length-append}
use Rattle.ipnet_addr.specs.AddressText.{IsShort, IsIpv4, IsUnitsAfter, IsIpv6}
use Rattle.std.specs.Net.Addr.{segments_of}
use Rattle.ipnet.specs.IpNetText.{Reads}
use Rattle.ipnet.specs.declared.ip_net.IpNet.{IpNet}
use Rattle.ipnet.specs.declared.ip_net.IpNet.TheVariants.{V4, V6}

-- in a record, so that antt reads the lists off a goal
record Short (text : List ℕ) (n : ℕ) : Type 0 where
  le : length text ≤ n

and : {xs ys : List ℕ} {m n : ℕ} → Short xs m → Short ys n → Short (xs ++ ys) (m + n)
and {xs} {ys} {m} {n} h k = record { le = omega (arith, h.le, k.le, length-append xs ys) }

one : (c : ℕ) → Short (c ∷ []) 1
one c = record { le = omega arith }

number : {radix digits max : ℕ} {text : List ℕ} {n : ℕ} → IsShort radix digits max text n → Short text digits
number h = record { le = h.short }

ipv4 : {text octets : List ℕ} → IsIpv4 text octets → Short text 15
ipv4 h = rw h.spelled (and (and (and (and (and (and (number h.is_a) (one 46)) (number h.is_b)) (one 46)) (number h.is_c)) (one 46)) (number h.is_d))

two : {text octets : List ℕ} → IsIpv4 text octets → length (segments_of octets) ≡ 2
two h = ap (λ o. length (segments_of o)) h.value

units : (dotted : Bool) (lead text us : List ℕ) → IsUnitsAfter dotted lead text us → length text ≤ 5 * length us + 5 + length lead
units dotted lead text [] h = omega (arith, ap length h)
units dotted lead text (u ∷ us) (inl h) = omega (arith, ap length h.2, length-append (lead ++ h.0) h.1, length-append lead h.0, h.3.short, units dotted (58 ∷ []) h.1 us h.4)
units dotted lead text (u ∷ us) (inr h) = omega (arith, ap length h.3, length-append lead h.0, (ipv4 h.4).le, two h.4, ap length h.5)

groups : (lead text us : List ℕ) → length lead ≤ 1 → IsUnitsAfter false lead text us → length text ≤ 5 * length us - (1 - length lead)
groups lead text [] few h = omega (arith, ap length h)
groups lead text (u ∷ us) few (inl h) = omega (arith, few, ap length h.2, length-append (lead ++ h.0) h.1, length-append lead h.0, h.3.short, groups (58 ∷ []) h.1 us (omega arith) h.4)
groups lead text (u ∷ us) few (inr h) = absurd (true≢false (sym h.2))

ipv6 : (text us : List ℕ) → IsIpv6 text us → Short text 47
ipv6 text us (inl h) = record { le = omega (arith, units true [] text us h.0, h.1) }
ipv6 text us (inr h) = record {
  le = omega (
    arith,
    ap length h.spelled,
    length-append (h.head_text ++ codes "::") h.tail_text,
    length-append h.head_text (codes "::"),
    groups [] h.head_text h.head (omega arith) h.head_units,
    units true [] h.tail_text h.tail h.tail_units,
    h.room,
  );
}

pub longest : (text : List ℕ) (n : IpNet) → Reads text n → length text ≤ 51
longest text (V4 n) h = let s : Short text 18 = rw h.spelled.spelled (and (and (ipv4 h.spelled.address) (one 47)) (number h.spelled.prefix)) in omega (arith, s.le)
longest text (V6 n) h = (let s : Short text 51 = rw h.spelled.spelled (and (and (ipv6 _ _ h.spelled.address) (one 47)) (number h.spelled.prefix)) in s).le
