use Rattle.std.proofs.Common.{◌≡◌, ◌∙◌, ◌++◌, ap, append_assoc, false, [], ◌∷◌, take, bytes_eq, refl, arith}
use Rattle.std.proofs.lemmas.Slice.Eq.{bytes_eq-Decides}
use Rattle.std.specs.Net.Text.{ipv6_text, ipv4_text}
use Rattle.ipnet_addr.proofs.printer.push_ipv6.Goals as goal

pub returns-in-Some-clause-bytes : goal.returns-in-Some-clause-bytes
unfolding ipv6_text
returns-in-Some-clause-bytes g c =
    let mapped = (bytes_eq-Decides _ _).1 (c.in-Some.ensures.found.0 refl) in
    rw (mapped, ← c.in-Some.ensures.value)
    (c.push_ipv4.ensures.bytes ∙ ap (λ t. t ++ ipv4_text c.in-Some.ipv4.octets) c.push_all.ensures.bytes ∙ append_assoc c.args.out.now.items (58 ∷ 58 ∷ 102 ∷ 102 ∷ 102 ∷ 102 ∷ 58 ∷ []) (ipv4_text c.in-Some.ipv4.octets))

pub returns-in-None-clause-bytes : goal.returns-in-None-clause-bytes
unfolding ipv6_text
returns-in-None-clause-bytes g c =
    let other : bytes_eq (take 6 c.args.addr.segments) (0 ∷ 0 ∷ 0 ∷ 0 ∷ 0 ∷ 0xffff ∷ []) ≡ false =
    grind (arith, bytes_eq-Decides (take 6 c.args.addr.segments) (0 ∷ 0 ∷ 0 ∷ 0 ∷ 0 ∷ 0xffff ∷ []), c.in-None.ensures.found) in
    rw (other, ← c.segments-segments.ensures) c.push_units.ensures.bytes
