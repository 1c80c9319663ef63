use Rattle.std.proofs.Common.{◌≡◌, ℕ, false, IsTrue, nat_eq, arith}
use Rattle.std.proofs.lemmas.Bool.Decides.{nat_tests}
use Rattle.trie_core.proofs.RemovedBelow.{branch_bare, branch_full}
use Rattle.trie_core.proofs.node.Branch.is_bare.Goals as goal

from_test : (a b : ℕ) → IsTrue (nat_eq a b) → a ≡ b
from_test a b h = grind (arith, nat_tests)

other : (a b : ℕ) → nat_eq a b ≡ false → a ≡ b → ⊥
other a b h e = grind (arith, nat_tests)

pub returns-then-self-eq0-clause-bare : goal.returns-then-self-eq0-clause-bare
returns-then-self-eq0-clause-bare g c = λ h. branch_bare c.self.invariant c.self.view_is c.if-self-eq0.true (from_test _ _ h)

pub returns-then-self-eq0-clause-full : goal.returns-then-self-eq0-clause-full
returns-then-self-eq0-clause-full g c = λ h. branch_full c.self.invariant c.self.view_is (λ e f. other _ _ h f)

pub returns-else-self-eq0-clause-full : goal.returns-else-self-eq0-clause-full
returns-else-self-eq0-clause-full g c = λ h. branch_full c.self.invariant c.self.view_is (λ e f. other _ _ h e)
