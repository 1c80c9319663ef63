use Rattle.std.proofs.Common.{refl, length}
use Rattle.trie_core.proofs.Opened.{opened, opened_within}
use Rattle.trie_core.proofs.owned_frame.opened.Goals as goal

pub down-below-requires-clause-within : goal.down-below-requires-clause-within
down-below-requires-clause-within g c = opened_within (length c.args.way.now) c.node.inside.levels c.node.inside.skip c.node.view_is c.branch_parts-values.ensures c.requires.levels

pub returns : goal.returns
returns g c = opened c.node.inside.levels c.node.inside.skip c.args.child c.node.view_is c.node.invariant.1 c.branch_parts-values.ensures refl refl c.down-below.ensures
