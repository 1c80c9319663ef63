use Rattle.std.proofs.Common.{◌∙◌, arith}
use Rattle.trie_core.proofs.Aligned.{path_length}
use Rattle.trie_core.proofs.Longer.{extended, as_number}
use Rattle.trie_core.proofs.path.Path.extended.Goals as goal

pub overflow_add-result : goal.overflow_add-result
overflow_add-result c =
    let f = (extended c.self.inside.bits c.self.inside.len c.from.result c.args.bit c.self.invariant (omega (arith, path_length {n = c.self.inside.len} _ c.self.view_is, c.requires)) (c.from.ensures ∙ as_number c.args.bit) c.self.view_is).aligned.masked.below in
    omega (arith, f)

pub invariant_of-result : goal.invariant_of-result
invariant_of-result c = (extended c.self.inside.bits c.self.inside.len c.from.result c.args.bit c.self.invariant (omega (arith, path_length {n = c.self.inside.len} _ c.self.view_is, c.requires)) (c.from.ensures ∙ as_number c.args.bit) c.self.view_is).aligned

pub returns : goal.returns
returns c = (extended c.self.inside.bits c.self.inside.len c.from.result c.args.bit c.self.invariant (omega (arith, path_length {n = c.self.inside.len} _ c.self.view_is, c.requires)) (c.from.ensures ∙ as_number c.args.bit) c.self.view_is).string
