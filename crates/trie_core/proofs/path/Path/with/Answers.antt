use Rattle.std.proofs.Common.{◌≡◌, ◌≤◌, ◌+◌, ◌∙◌, ap, ◌++◌, arith}
use Rattle.std.proofs.Math.Facts.{Fits-of_lt}
use Rattle.trie_core.specs.Prefixes.{prefix_bits}
use Rattle.trie_core.proofs.Aligned.{path_length}
use Rattle.trie_core.proofs.Longer.{longer}
use Rattle.trie_core.proofs.path.Path.with.Goals as goal

pub overflow_add-result : goal.overflow_add-result
overflow_add-result c =
    let l : c.self.inside.len + c.args.len ≤ 128 = omega (arith, path_length {n = c.self.inside.len} _ c.self.view_is, c.requires.within) in
    let t = longer c.self.inside.bits c.self.inside.len c.args.five c.args.len c.self.invariant c.requires.five c.requires.len l in
    let f : c.from.result ≡ c.args.five = c.from.ensures in
    rw f (Fits-of_lt t.fits)

pub invariant_of-result : goal.invariant_of-result
invariant_of-result c =
    let l : c.self.inside.len + c.args.len ≤ 128 = omega (arith, path_length {n = c.self.inside.len} _ c.self.view_is, c.requires.within) in
    let t = longer c.self.inside.bits c.self.inside.len c.args.five c.args.len c.self.invariant c.requires.five c.requires.len l in
    let f : c.from.result ≡ c.args.five = c.from.ensures in
    rw f t.aligned

pub returns : goal.returns
returns c =
    let l : c.self.inside.len + c.args.len ≤ 128 = omega (arith, path_length {n = c.self.inside.len} _ c.self.view_is, c.requires.within) in
    let t = longer c.self.inside.bits c.self.inside.len c.args.five c.args.len c.self.invariant c.requires.five c.requires.len l in
    let f : c.from.result ≡ c.args.five = c.from.ensures in
    rw f t.value ∙ ap (λ bs. bs ++ prefix_bits 5 c.args.five c.args.len) c.self.view_is
