use Rattle.std.proofs.Common.{refl, length}
use Rattle.trie_core.proofs.Opened.{opened, opened_within}
use Rattle.trie_core.proofs.lent_frame.LentNode.opened.Goals as goal

pub down-below-requires-clause-within : goal.down-below-requires-clause-within
down-below-requires-clause-within g c = opened_within (length c.args.way.now) c.self.inside.levels c.self.inside.skip c.self.view_is c.branch_parts-values.ensures c.requires.levels

pub returns : goal.returns
returns g c = opened c.self.inside.levels c.self.inside.skip c.args.child c.self.view_is c.self.invariant.1 c.branch_parts-values.ensures refl refl c.down-below.ensures
