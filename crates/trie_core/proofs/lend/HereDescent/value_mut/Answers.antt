use Rattle.std.proofs.Common.{◌∙◌, refl, subst, IsSome}
use Rattle.trie_core.proofs.Skipped.{skipped_get}
use Rattle.trie_core.proofs.SkippedLent.{skipped_starts, skipped_lent}
use Rattle.trie_core.proofs.lend.HereDescent.value_mut.Goals as goal

pub past-rest-requires-clause-within : goal.past-rest-requires-clause-within
past-rest-requires-clause-within g c = (skipped_starts c.node.inside.levels c.node.inside.skip c.args.path.now c.node.inside.branch c.args.node.now c.node.view_is c.requires.stored).0

pub value_here-requires-clause-stored : goal.value_here-requires-clause-stored
value_here-requires-clause-stored g c =
    let t = skipped_starts c.node.inside.levels c.node.inside.skip c.args.path.now c.node.inside.branch c.args.node.now c.node.view_is c.requires.stored in
    subst IsSome (skipped_get c.node.inside.levels c.node.inside.skip c.args.path.now c.past-rest.result c.node.inside.branch c.args.node.now c.node.view_is t c.past-rest.ensures) c.requires.stored

pub returns : goal.returns
returns g c =
    let t = skipped_starts c.node.inside.levels c.node.inside.skip c.args.path.now c.node.inside.branch c.args.node.now c.node.view_is c.requires.stored in
    let e = skipped_get c.node.inside.levels c.node.inside.skip c.args.path.now c.past-rest.result c.node.inside.branch c.args.node.now c.node.view_is t c.past-rest.ensures in (
      (refl, λ w. skipped_lent c.node.inside.levels c.node.inside.skip c.args.path.now c.past-rest.result c.node.inside.branch w c.node.view_is t c.past-rest.ensures (subst IsSome e c.requires.stored)),
      record { writes_back = tt; value = e ∙ c.value_here.ensures.value },
    )
