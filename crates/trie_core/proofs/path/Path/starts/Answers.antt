use Rattle.std.proofs.Common.{◌≡◌, ℕ, ◌+◌, ◌-◌, ◌*◌, ◌/◌, ◌^◌, ◌≤◌, sym, ap, ◌∙◌, IsTrue, nat_eq, shr-shr, arith}
use Rattle.std.proofs.lemmas.Bool.Decides.{nat_tests}
use Rattle.trie_core.proofs.Aligned.{path_length}
use Rattle.trie_core.proofs.Past.{starts}
use Rattle.trie_core.proofs.path.Path.starts.Goals as goal

from_test : (a b : ℕ) → IsTrue (nat_eq a b) → a ≡ b
from_test a b h = grind (arith, nat_tests)

to_test : (a b : ℕ) → a ≡ b → IsTrue (nat_eq a b)
to_test a b h = grind (arith, nat_tests)

pub returns-then-self-count : goal.returns-then-self-count
returns-then-self-count c =
    let k = c.args.levels in
    let l : 5 * k ≤ c.self.inside.len = grind (arith, nat_tests) in
    let t = starts k c.args.skip c.self.inside.bits c.self.inside.len c.self.invariant c.self.view_is l c.requires.skip in
    let w = c.self.inside.bits / 2 ^ 96 / 2 ^ (32 - 5 * k) in
    let i : 96 + (32 - 5 * k) ≡ 128 - 5 * k = omega (arith, c.requires.levels) in
    let e : w ≡ c.self.inside.bits / 2 ^ (128 - 5 * k) = shr-shr c.self.inside.bits 96 (32 - 5 * k) ∙ ap (λ i. c.self.inside.bits / 2 ^ i) i in
    (λ h. t.0 (sym e ∙ from_test w c.args.skip h), λ s. to_test w c.args.skip (e ∙ t.1 s))

pub returns-else-self-count : goal.returns-else-self-count
returns-else-self-count c =
    let e = path_length {n = c.self.inside.len} _ c.self.view_is in
    (λ h. absurd (grind (arith, nat_tests)), λ s. let f = s.0 in grind (arith, nat_tests))
