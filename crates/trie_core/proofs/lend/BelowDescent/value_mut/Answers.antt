use Rattle.std.proofs.Common.{◌≤◌, ◌∙◌, refl, sym, ap, subst, length, IsSome, arith}
use Rattle.std.specs.FinMap.{get}
use Rattle.std.proofs.lemmas.Bool.Decides.{nat_tests}
use Rattle.trie_core.specs.InnerLending.{node_with}
use Rattle.trie_core.specs.InnerChains.{chain, skipped}
use Rattle.trie_core.proofs.Seen.{seen}
use Rattle.trie_core.proofs.Changes.{way, was}
use Rattle.trie_core.proofs.Lent.{stored_below, lent_below}
use Rattle.trie_core.proofs.Shapes.{written}
use Rattle.trie_core.proofs.Skipped.{skipped_get}
use Rattle.trie_core.proofs.SkippedLent.{skipped_starts, skipped_lent}
use Rattle.trie_core.proofs.lend.BelowDescent.value_mut.Goals as goal

pub past-rest-requires-clause-within : goal.past-rest-requires-clause-within
past-rest-requires-clause-within g c = (skipped_starts c.node.inside.levels c.node.inside.skip c.args.path.now c.node.inside.branch c.args.node.now c.node.view_is c.requires.stored).0

pub value_here-requires-clause-stored : goal.value_here-requires-clause-stored
value_here-requires-clause-stored g c =
    let t = skipped_starts c.node.inside.levels c.node.inside.skip c.args.path.now c.node.inside.branch c.args.node.now c.node.view_is c.requires.stored in
    subst IsSome (skipped_get c.node.inside.levels c.node.inside.skip c.args.path.now c.past-rest.result c.node.inside.branch c.args.node.now c.node.view_is t c.past-rest.ensures) c.requires.stored

pub returns-then-is_short : goal.returns-then-is_short
returns-then-is_short g c =
    let t = skipped_starts c.node.inside.levels c.node.inside.skip c.args.path.now c.node.inside.branch c.args.node.now c.node.view_is c.requires.stored in
    let e = skipped_get c.node.inside.levels c.node.inside.skip c.args.path.now c.past-rest.result c.node.inside.branch c.args.node.now c.node.view_is t c.past-rest.ensures in (
      (refl, λ w. skipped_lent c.node.inside.levels c.node.inside.skip c.args.path.now c.past-rest.result c.node.inside.branch w c.node.view_is t c.past-rest.ensures (subst IsSome e c.requires.stored)),
      record { writes_back = tt; value = e ∙ c.value_here.ensures.value },
    )

pub unreachable-requires : goal.unreachable-requires
unreachable-requires g c =
    let t = skipped_starts c.node.inside.levels c.node.inside.skip c.args.path.now c.node.inside.branch c.args.node.now c.node.view_is c.requires.stored in
    let e = skipped_get c.node.inside.levels c.node.inside.skip c.args.path.now c.past-rest.result c.node.inside.branch c.args.node.now c.node.view_is t c.past-rest.ensures in
    let h : 5 ≤ length c.past-rest.result = grind (arith, nat_tests) in
    stored_below c.past-rest.result (seen c.branch.invariant c.branch.view_is) h c.five.ensures.value c.in_default.ensures (subst IsSome e c.requires.stored)

pub child_mut-child-requires : goal.child_mut-child-requires
child_mut-child-requires g c = (way c.past-rest.result (seen c.branch.invariant c.branch.view_is) c.five.ensures.value c.in-Some.ensures).within

pub value_mut-requires-clause-stored : goal.value_mut-requires-clause-stored
value_mut-requires-clause-stored g c =
    let t = skipped_starts c.node.inside.levels c.node.inside.skip c.args.path.now c.node.inside.branch c.args.node.now c.node.view_is c.requires.stored in
    let e = skipped_get c.node.inside.levels c.node.inside.skip c.args.path.now c.past-rest.result c.node.inside.branch c.args.node.now c.node.view_is t c.past-rest.ensures in
    let h : 5 ≤ length c.past-rest.result = grind (arith, nat_tests) in
    let s = seen c.branch.invariant c.branch.view_is in
    let w = was c.past-rest.result c.child_mut-child.result.now s h (way c.past-rest.result s c.five.ensures.value c.in-Some.ensures) c.child_mut-child.ensures.value in
    subst IsSome (e ∙ sym (ap (get c.child_mut-child.result.now.entries) c.rest.ensures ∙ w)) c.requires.stored

pub returns : goal.returns
returns g c =
    let t = skipped_starts c.node.inside.levels c.node.inside.skip c.args.path.now c.node.inside.branch c.args.node.now c.node.view_is c.requires.stored in
    let e = skipped_get c.node.inside.levels c.node.inside.skip c.args.path.now c.past-rest.result c.node.inside.branch c.args.node.now c.node.view_is t c.past-rest.ensures in
    let h : 5 ≤ length c.past-rest.result = grind (arith, nat_tests) in
    let s = seen c.branch.invariant c.branch.view_is in
    let k = way c.past-rest.result s c.five.ensures.value c.in-Some.ensures in
    let v = was c.past-rest.result c.child_mut-child.result.now s h k c.child_mut-child.ensures.value in
    let f = ap (get c.child_mut-child.result.now.entries) c.rest.ensures ∙ v in
    let o = subst IsSome (e ∙ sym f) c.requires.stored in (
      (
        refl,
        λ w.
            ap (chain c.node.inside.levels (skipped c.node.inside.levels c.node.inside.skip)) (sym (written c.branch.inside.value_bits c.branch.inside.child_bits c.in-Some.at (node_with c.child_mut-child.result.now c.rest.result w) c.branch.inside.body)
            ∙ lent_below c.past-rest.result c.rest.result c.child_mut-child.result.now w s h c.rest.ensures k c.child_mut-child.ensures.value o)
            ∙ skipped_lent c.node.inside.levels c.node.inside.skip c.args.path.now c.past-rest.result c.node.inside.branch w c.node.view_is t c.past-rest.ensures (subst IsSome e c.requires.stored),
      ),
      record { writes_back = tt; value = e ∙ sym f ∙ c.value_mut.ensures.value },
    )
