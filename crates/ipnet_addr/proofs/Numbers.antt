-- The number of an address, and its octets.
use Rattle.std.proofs.Common.{◌≡◌, ℕ, zero, suc, get_or, ◌+◌, ◌*◌, ◌/◌, ◌%◌, ◌^◌, ◌<◌, List, [], ◌∷◌, length, refl, sym, subst, ap, ◌∙◌, arith}
use Rattle.std.proofs.Math.Nat as nat
use Rattle.std.proofs.NetLemmas.Arrays.{four_items, eight_items}
use Rattle.std.proofs.lemmas.Nat.{from_be_bytes-to_be_bytes_4, be_bytes_4, same_from_place}
use Rattle.std.specs.Int.{w32, w128, from_be_bytes, to_be_bytes}
use Rattle.std.specs.Int.Digits.{number_from_digits, number_from_digits_after}
use Rattle.std.specs.Net.Addr.{ipv4_octets, ipv6_segments, ipv4_bits, ipv6_bits, segments_of, octets_of, IsIpv4Addr, IsIpv6Addr, IsIpv4OfBits, IsIpv6OfBits}
use Rattle.std.specs.declared.net.ipv4_addr.Ipv4Addr.{Ipv4Addr}
use Rattle.std.specs.declared.net.ipv6_addr.Ipv6Addr.{Ipv6Addr}

four : (a b c d : ℕ) → from_be_bytes w32 (a ∷ b ∷ c ∷ d ∷ []) ≡ number_from_digits 256 (a ∷ b ∷ c ∷ d ∷ [])
four a b c d = omega arith

-- the number of an IPv4 address is the one that its octets write in base 256
pub ipv4_number : (a : Ipv4Addr) → IsIpv4Addr a → ipv4_bits a ≡ number_from_digits 256 (ipv4_octets a)
unfolding ipv4_bits
ipv4_number a h = subst (λ (o : List ℕ). from_be_bytes w32 o ≡ number_from_digits 256 o) (sym (four_items (ipv4_octets a) h.0)) (four _ _ _ _)

-- the octets of a number write it
pub octets_number : (n : ℕ) → n < 2 ^ 32 → number_from_digits 256 (to_be_bytes w32 n) ≡ n
octets_number n fits = sym (four _ _ _ _) ∙ from_be_bytes-to_be_bytes_4 n fits

-- the address made of a number has that number
pub ipv4_bits_of_bits : (a : Ipv4Addr) (n : ℕ) → IsIpv4OfBits a n → n < 2 ^ 32 → ipv4_bits a ≡ n
unfolding ipv4_bits IsIpv4OfBits
ipv4_bits_of_bits a n h fits = ap (from_be_bytes w32) h ∙ from_be_bytes-to_be_bytes_4 n fits

-- four octets that are read make the number that they write
pub parts_number : (a : Ipv4Addr) (w x y z : ℕ) → ipv4_octets a ≡ w ∷ x ∷ y ∷ z ∷ [] → ipv4_bits a ≡ number_from_digits 256 (ipv4_octets a)
unfolding ipv4_bits
parts_number a w x y z e = subst (λ (o : List ℕ). from_be_bytes w32 o ≡ number_from_digits 256 o) (sym e) (four w x y z)

-- the octets of an address are those of its number
pub octets_of_bits : (a : Ipv4Addr) → IsIpv4Addr a → ipv4_octets a ≡ to_be_bytes w32 (ipv4_bits a)
unfolding ipv4_bits
octets_of_bits a h = sym (be_bytes_4 (ipv4_octets a) _ h.0 h.1 refl)

eight : (a b c d e f g h : ℕ) → from_be_bytes w128 (octets_of (a ∷ b ∷ c ∷ d ∷ e ∷ f ∷ g ∷ h ∷ [])) ≡ number_from_digits 65536 (a ∷ b ∷ c ∷ d ∷ e ∷ f ∷ g ∷ h ∷ [])
eight a b c d e f g h = omega arith

-- eight units write the number whose octets they hold
units_number : (units : List ℕ) → length units ≡ 8 → from_be_bytes w128 (octets_of units) ≡ number_from_digits 65536 units
units_number units l = subst (λ (o : List ℕ). from_be_bytes w128 (octets_of o) ≡ number_from_digits 65536 o) (sym (eight_items units l)) (eight _ _ _ _ _ _ _ _)

-- the number of an IPv6 address is the one that its units write in base 65536
pub units_bits : (a : Ipv6Addr) → length (ipv6_segments a) ≡ 8 → ipv6_bits a ≡ number_from_digits 65536 (ipv6_segments a)
unfolding ipv6_bits
units_bits a l = units_number (ipv6_segments a) l

pub ipv6_number : (a : Ipv6Addr) → IsIpv6Addr a → ipv6_bits a ≡ number_from_digits 65536 (ipv6_segments a)
ipv6_number a h = units_bits a h.0

-- one unit of a number, after those above it
unit_step : (n p : ℕ) → n / (p * 65536) * 65536 + (n / (p * 256) % 256 * 256 + n / p % 256) ≡ n / p
unit_step n p = omega (arith, nat.div-div-eq-div-mul n p 256, nat.div-div-eq-div-mul n p 65536)

joined : (a b c d e f g h n p q r s t u v : ℕ) → 0 * 65536 + a ≡ p → p * 65536 + b ≡ q → q * 65536 + c ≡ r → r * 65536 + d ≡ s
    → s * 65536 + e ≡ t → t * 65536 + f ≡ u → u * 65536 + g ≡ v → v * 65536 + h ≡ n → number_from_digits 65536 (a ∷ b ∷ c ∷ d ∷ e ∷ f ∷ g ∷ h ∷ []) ≡ n
joined a b c d e f g h n p q r s t u v at_a at_b at_c at_d at_e at_f at_g at_h = rw (at_a, at_b, at_c, at_d, at_e, at_f, at_g) at_h

-- the units of a number write it
pub segments_number : (n : ℕ) → n < 2 ^ 128 → number_from_digits 65536 (segments_of (to_be_bytes w128 n)) ≡ n
segments_number n fits = joined _ _ _ _ _ _ _ _ n _ _ _ _ _ _ _
    (omega arith) (unit_step n (2 ^ 96)) (unit_step n (2 ^ 80)) (unit_step n (2 ^ 64)) (unit_step n (2 ^ 48)) (unit_step n (2 ^ 32)) (unit_step n (2 ^ 16)) (omega arith)

pub ipv6_bits_of_bits : (a : Ipv6Addr) (n : ℕ) → IsIpv6OfBits a n → n < 2 ^ 128 → ipv6_bits a ≡ n
unfolding ipv6_bits IsIpv6OfBits
ipv6_bits_of_bits a n h fits = ap (λ o. from_be_bytes w128 (octets_of o)) h ∙ units_number (segments_of (to_be_bytes w128 n)) refl ∙ segments_number n fits

-- as many digits that write the same number are the same
pub digits_apart : (b m n : ℕ) (xs ys : List ℕ) → length xs ≡ length ys → ((k : ℕ) → get_or xs k 0 < b) → ((k : ℕ) → get_or ys k 0 < b)
    → number_from_digits_after b m xs ≡ number_from_digits_after b n ys → (m ≡ n) × (xs ≡ ys)
digits_apart b m n [] [] l small tiny e = (e, refl)
digits_apart b m n [] (y ∷ ys) l small tiny e = absurd (omega arith)
digits_apart b m n (x ∷ xs) [] l small tiny e = absurd (omega arith)
digits_apart b m n (x ∷ xs) (y ∷ ys) l small tiny e =
    let later = digits_apart b (m * b + x) (n * b + y) xs ys (omega arith) (λ k. small (suc k)) (λ k. tiny (suc k)) e in
    let here = same_from_place m x n y b (small 0) (tiny 0) later.0 in
    (here.0, λ i. here.1 i ∷ later.1 i)

pub segments_small : (n k : ℕ) → get_or (segments_of (to_be_bytes w128 n)) k 0 < 2 ^ 16
segments_small n zero = omega arith
segments_small n (suc zero) = omega arith
segments_small n (suc (suc zero)) = omega arith
segments_small n (suc (suc (suc zero))) = omega arith
segments_small n (suc (suc (suc (suc zero)))) = omega arith
segments_small n (suc (suc (suc (suc (suc zero))))) = omega arith
segments_small n (suc (suc (suc (suc (suc (suc zero)))))) = omega arith
segments_small n (suc (suc (suc (suc (suc (suc (suc zero))))))) = omega arith
segments_small n (suc (suc (suc (suc (suc (suc (suc (suc k)))))))) = omega arith

-- the units of an address are those of its number
pub segments_of_bits : (a : Ipv6Addr) (n : ℕ) → IsIpv6Addr a → ipv6_bits a ≡ n → n < 2 ^ 128 → ipv6_segments a ≡ segments_of (to_be_bytes w128 n)
segments_of_bits a n h is fits =
    (digits_apart 65536 0 0 (ipv6_segments a) (segments_of (to_be_bytes w128 n)) h.0 h.1 (segments_small n) (sym (ipv6_number a h) ∙ is ∙ sym (segments_number n fits))).1

-- no two addresses have one number
pub same_ipv4 : (a b : Ipv4Addr) → IsIpv4Addr a → IsIpv4Addr b → ipv4_bits a ≡ ipv4_bits b → a ≡ b
same_ipv4 a b h k e =
    let octets = (digits_apart 256 0 0 (ipv4_octets a) (ipv4_octets b) (h.0 ∙ sym k.0) h.1 k.1 (sym (ipv4_number a h) ∙ e ∙ ipv4_number b k)).1 in
    λ i. record { octets = octets i }

pub same_ipv6 : (a b : Ipv6Addr) → IsIpv6Addr a → IsIpv6Addr b → ipv6_bits a ≡ ipv6_bits b → a ≡ b
same_ipv6 a b h k e =
    let units = (digits_apart 65536 0 0 (ipv6_segments a) (ipv6_segments b) (h.0 ∙ sym k.0) h.1 k.1 (sym (ipv6_number a h) ∙ e ∙ ipv6_number b k)).1 in
    λ i. record { segments = units i }
