use Rattle.std.proofs.Common.{arith}
use Rattle.trie_core.proofs.Aligned.{path_length, rest, rest_aligned}
use Rattle.trie_core.proofs.path.Path.rest.Goals as goal

pub overflow_sub-result : goal.overflow_sub-result
overflow_sub-result c = omega (arith, path_length {n = c.self.inside.len} _ c.self.view_is, c.requires)

pub invariant_of-result : goal.invariant_of-result
invariant_of-result c = rest_aligned c.self.inside.bits c.self.inside.len c.self.invariant (overflow_sub-result c)

pub returns : goal.returns
returns c = rest c.self.inside.bits c.self.inside.len c.self.invariant (overflow_sub-result c) c.self.view_is
