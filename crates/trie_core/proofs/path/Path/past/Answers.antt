use Rattle.std.proofs.Common.{◌*◌, arith}
use Rattle.trie_core.proofs.Aligned.{path_length}
use Rattle.trie_core.proofs.Past.{past, past_aligned}
use Rattle.trie_core.proofs.path.Path.past.Goals as goal

pub overflow_sub-result : goal.overflow_sub-result
overflow_sub-result c = omega (arith, path_length {n = c.self.inside.len} _ c.self.view_is, c.requires.within)

pub invariant_of-result : goal.invariant_of-result
invariant_of-result c = past_aligned (5 * c.args.levels) c.self.inside.bits c.self.inside.len c.self.invariant (overflow_sub-result c)

pub returns : goal.returns
returns c = past (5 * c.args.levels) c.self.inside.bits c.self.inside.len c.self.invariant (overflow_sub-result c) c.self.view_is
