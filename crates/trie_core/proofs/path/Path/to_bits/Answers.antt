use Rattle.std.proofs.Common.{◌∙◌, ap, subst, sym}
use Rattle.trie_core.specs.Prefixes.{prefix_bits, IsMasked}
use Rattle.trie_core.proofs.Aligned.{path_length}
use Rattle.trie_core.proofs.path.Path.to_bits.Goals as goal

pub returns-clause-bits : goal.returns-clause-bits
returns-clause-bits c = ap (prefix_bits 128 c.self.inside.bits) (sym (path_length {n = c.self.inside.len} _ c.self.view_is)) ∙ c.self.view_is

pub returns-clause-masked : goal.returns-clause-masked
returns-clause-masked c = subst (IsMasked 128 c.self.inside.bits) (path_length {n = c.self.inside.len} _ c.self.view_is) c.self.invariant.masked
