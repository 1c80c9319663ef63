use Rattle.std.proofs.Common.{◌≡◌, sym, ap, subst, ◌∙◌, nat_eq, eqb-true, arith}
use Rattle.trie_core.specs.InnerRemovedBelow.{IsBare, IsFull}
use Rattle.trie_core.specs.InnerCount.{all_nodes}
use Rattle.trie_core.specs.InnerChains.{chain, skipped}
use Rattle.trie_core.proofs.RemovedBelow.{bare_test, skipped_full}
use Rattle.trie_core.proofs.node.Node.is_bare.Goals as goal

pub returns-then-self-eq0-clause-bare : goal.returns-then-self-eq0-clause-bare
returns-then-self-eq0-clause-bare g c =
    let e = ap (λ k. chain k (skipped k c.self.inside.skip) c.self.inside.branch) (sym c.if-self-eq0.true) ∙ c.self.view_is in
    bare_test c.is_bare.result (λ h. subst IsBare e (c.is_bare.ensures.bare h)) (λ h. subst IsFull e (c.is_bare.ensures.full h))

pub returns-then-self-eq0-clause-count : goal.returns-then-self-eq0-clause-count
returns-then-self-eq0-clause-count g c h =
    let e = ap (λ k. chain k (skipped k c.self.inside.skip) c.self.inside.branch) (sym c.if-self-eq0.true) ∙ c.self.view_is in
    subst (λ d. all_nodes d ≡ 1) e (c.is_bare.ensures.bare h).count

pub returns-else-self-eq0-clause-bare : goal.returns-else-self-eq0-clause-bare
returns-else-self-eq0-clause-bare g c =
    let k = c.self.inside.levels in
    let s = skipped k c.self.inside.skip in
    let full = subst IsFull c.self.view_is (skipped_full k s c.self.inside.branch (omega (arith, c.if-self-eq0.false))) in
    bare_test {d = c.args.self.now} (nat_eq k 0) (λ h. absurd (c.if-self-eq0.false (eqb-true k 0 h))) (λ h. full)
