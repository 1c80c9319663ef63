-- The two families, by their ranks and by the test of `same_family`.
use Rattle.std.proofs.Common.{◌≡◌, true, refl, ap, arith}
use Rattle.std.proofs.lemmas.Bool.Decides.{nat_tests}
use Rattle.ipnet_addr.specs.Addresses.{Family, Ipv4, Ipv6, rank, same_family}

pub rank_apart : (f g : Family) → rank f ≡ rank g → f ≡ g
rank_apart Ipv4 Ipv4 e = refl
rank_apart Ipv4 Ipv6 e = absurd (omega arith)
rank_apart Ipv6 Ipv4 e = absurd (omega arith)
rank_apart Ipv6 Ipv6 e = refl

pub family_from_test : (f g : Family) → same_family f g ≡ true → f ≡ g
family_from_test f g e = rank_apart f g (grind (arith, nat_tests, e))

pub test_from_family : (f g : Family) → f ≡ g → same_family f g ≡ true
test_from_family f g e = let r = ap rank e in grind (arith, nat_tests)
