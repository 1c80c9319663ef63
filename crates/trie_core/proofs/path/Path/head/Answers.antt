use Rattle.std.proofs.Common.{◌*◌, pow_mono, arith}
use Rattle.std.proofs.Math.Facts.{Fits-of_lt}
use Rattle.trie_core.proofs.Aligned.{path_length}
use Rattle.trie_core.proofs.Past.{top_bits}
use Rattle.trie_core.proofs.path.Path.head.Goals as goal

pub overflow_cast-result-2 : goal.overflow_cast-result-2
overflow_cast-result-2 c =
    let t = top_bits c.args.levels c.self.inside.bits c.self.inside.len c.self.invariant c.self.view_is (omega (arith, c.requires.within, path_length {n = c.self.inside.len} _ c.self.view_is)) in
    Fits-of_lt (omega (arith, t.0, pow_mono {i = 5 * c.args.levels} {j = 25} (omega (arith, c.requires.levels))))

pub returns-clause-below : goal.returns-clause-below
returns-clause-below c = (top_bits c.args.levels c.self.inside.bits c.self.inside.len c.self.invariant c.self.view_is (omega (arith, c.requires.within, path_length {n = c.self.inside.len} _ c.self.view_is))).0

pub returns-clause-starts : goal.returns-clause-starts
returns-clause-starts c = (top_bits c.args.levels c.self.inside.bits c.self.inside.len c.self.invariant c.self.view_is (omega (arith, c.requires.within, path_length {n = c.self.inside.len} _ c.self.view_is))).1
