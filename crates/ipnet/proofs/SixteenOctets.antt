-- The sixteen octets of a number.
use Rattle.std.proofs.Common.{◌≡◌, ℕ, ◌%◌, ◌^◌, ◌<◌, ◌≤◌, zero, suc, List, [], ◌∷◌, ◌++◌, length, take, get_or, sym, ap, subst, ◌∙◌, arith, ⊎_elim, take_all, get_or-take, length-take-le, length-take}
use Rattle.std.proofs.lemmas.Bool.{cases_lt}
use Rattle.std.proofs.lemmas.List.{take_more, get_or_past}
use Rattle.std.proofs.NetLemmas.Arrays.{sixteen_items}
use Rattle.std.specs.Int.{w128, from_be_bytes, to_be_bytes}
use Rattle.std.specs.Int.Digits.{number_from_digits}
use Rattle.std.specs.Net.Addr.{segments_of}
use Rattle.ipnet_blocks.specs.Networks.{Network}
use Rattle.ipnet.specs.Forms.{HoldsIpv6}
use Rattle.ipnet_addr.proofs.Numbers.{segments_number, digits_apart}

-- octets by pairs
pairs : (a b c d e f g h i j k l m n o p : ℕ) → number_from_digits 256 (a ∷ b ∷ c ∷ d ∷ e ∷ f ∷ g ∷ h ∷ i ∷ j ∷ k ∷ l ∷ m ∷ n ∷ o ∷ p ∷ [])
    ≡ number_from_digits 65536 (segments_of (a ∷ b ∷ c ∷ d ∷ e ∷ f ∷ g ∷ h ∷ i ∷ j ∷ k ∷ l ∷ m ∷ n ∷ o ∷ p ∷ []))
pairs a b c d e f g h i j k l m n o p = omega arith

read : (a b c d e f g h i j k l m n o p : ℕ) → from_be_bytes w128 (a ∷ b ∷ c ∷ d ∷ e ∷ f ∷ g ∷ h ∷ i ∷ j ∷ k ∷ l ∷ m ∷ n ∷ o ∷ p ∷ [])
    ≡ number_from_digits 256 (a ∷ b ∷ c ∷ d ∷ e ∷ f ∷ g ∷ h ∷ i ∷ j ∷ k ∷ l ∷ m ∷ n ∷ o ∷ p ∷ [])
read a b c d e f g h i j k l m n o p = omega arith

abbrev AreOctets : List ℕ → Type 0
AreOctets [] = Unit {0}
AreOctets (x ∷ xs) = (x < 256) × AreOctets xs

each : (xs : List ℕ) → AreOctets xs → (k : ℕ) → get_or xs k 0 < 256
each [] h k = omega arith
each (x ∷ xs) h zero = h.0
each (x ∷ xs) h (suc k) = each xs h.1 k

octet : (n : ℕ) → n % 256 < 256
octet n = omega arith

octets_small : (n k : ℕ) → get_or (to_be_bytes w128 n) k 0 < 256
octets_small n = each (to_be_bytes w128 n) (octet _, (octet _, (octet _, (octet _, (octet _, (octet _, (octet _, (octet _, (octet _, (octet _, (octet _, (octet _, (octet _, (octet _, (octet _, (octet _, tt))))))))))))))))

-- the octets of a number write it
pub octets_write : (n : ℕ) → n < 2 ^ 128 → number_from_digits 256 (to_be_bytes w128 n) ≡ n
octets_write n fits = pairs _ _ _ _ _ _ _ _ _ _ _ _ _ _ _ _ ∙ segments_number n fits

-- octets that are read are those of the number read
pub read_octets : (bytes : List ℕ) → length bytes ≡ 16 → ((k : ℕ) → get_or bytes k 0 < 256) → from_be_bytes w128 bytes < 2 ^ 128 → bytes ≡ to_be_bytes w128 (from_be_bytes w128 bytes)
read_octets bytes l small fits =
    let n = from_be_bytes w128 bytes in
    let is : number_from_digits 256 bytes ≡ n =
    subst (λ (bs : List ℕ). number_from_digits 256 bs ≡ from_be_bytes w128 bs) (sym (sixteen_items bytes l)) (sym (read _ _ _ _ _ _ _ _ _ _ _ _ _ _ _ _)) in
    (digits_apart 256 0 0 bytes (to_be_bytes w128 n) l small (octets_small n) (is ∙ sym (octets_write n fits))).1

-- seventeen bytes are those of the network of their first sixteen and their last one
pub read_net : (bytes octets : List ℕ) (n : Network) (number : ℕ) → length bytes ≡ 17 → ((k : ℕ) → get_or bytes k 0 < 256) → octets ≡ take 16 bytes
    → number ≡ from_be_bytes w128 octets → number < 2 ^ 128 → n.number ≡ number → n.len ≡ get_or bytes 16 0 → n.len ≤ 128 → HoldsIpv6 bytes n
read_net bytes octets n number l small front is fits whole last long =
    let parts : bytes ≡ take 16 bytes ++ get_or bytes 16 0 ∷ [] = sym (take_all 17 bytes (omega arith)) ∙ take_more bytes 16 0 (omega arith) in
    let size : length (take 16 bytes) ≡ 16 = length-take-le 16 bytes (omega arith) in
    let below : (k : ℕ) → get_or (take 16 bytes) k 0 < 256 = each_of bytes 16 small in
    let read_is : from_be_bytes w128 (take 16 bytes) ≡ n.number = sym (ap (from_be_bytes w128) front) ∙ sym is ∙ sym whole in
    let same : take 16 bytes ≡ to_be_bytes w128 n.number = read_octets (take 16 bytes) size below (omega arith) ∙ ap (to_be_bytes w128) read_is in (
      parts ∙ ap (λ f. f ++ get_or bytes 16 0 ∷ []) same ∙ ap (λ m. to_be_bytes w128 n.number ++ m ∷ []) (sym last),
      record { in_width = long; in_range = omega arith },
    )
  where
    each_of : (xs : List ℕ) (i : ℕ) → ((k : ℕ) → get_or xs k 0 < 256) → (k : ℕ) → get_or (take i xs) k 0 < 256
    each_of xs i h k = ⊎_elim (λ l. let same : get_or (take i xs) k 0 ≡ get_or xs k 0 = get_or-take i xs k 0 l in let small : get_or xs k 0 < 256 = h k in omega arith) (λ l. let past : get_or (take i xs) k 0 ≡ 0 = get_or_past (take i xs) k 0 (omega (arith, length-take i xs)) in omega arith) (cases_lt k i)
