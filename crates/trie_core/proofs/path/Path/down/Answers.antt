use Rattle.std.proofs.Common.{◌≤◌, ◌+◌, ◌*◌, ◌^◌, ◌∙◌, ap, ◌++◌, arith}
use Rattle.std.proofs.Math.Facts.{Fits-of_lt}
use Rattle.ipnet_blocks.specs.Blocks.{digits}
use Rattle.trie_core.proofs.Aligned.{path_length}
use Rattle.trie_core.proofs.Opened.{number_kept, went_down}
use Rattle.trie_core.proofs.path.Path.down.Goals as goal

pub overflow_add-number : goal.overflow_add-number
overflow_add-number c = Fits-of_lt (number_kept c.args.levels c.args.child c.args.skip c.requires.levels c.requires.child c.requires.skip c.from.ensures)

pub overflow_sub-result : goal.overflow_sub-result
overflow_sub-result c = omega (arith, path_length {n = c.self.inside.len} _ c.self.view_is, c.requires.within)

pub overflow_add-result : goal.overflow_add-result
overflow_add-result c =
    let l : c.self.inside.len + (5 * c.args.levels + 5) ≤ 128 = omega (arith, path_length {n = c.self.inside.len} _ c.self.view_is, c.requires.within) in
    Fits-of_lt ((went_down c.self.inside.bits c.self.inside.len c.args.levels c.args.child c.args.skip c.self.invariant c.requires.levels c.requires.child c.requires.skip l c.from.ensures c.from-2.ensures).fits)

pub invariant_of-result : goal.invariant_of-result
invariant_of-result c =
    let l : c.self.inside.len + (5 * c.args.levels + 5) ≤ 128 = omega (arith, path_length {n = c.self.inside.len} _ c.self.view_is, c.requires.within) in
    (went_down c.self.inside.bits c.self.inside.len c.args.levels c.args.child c.args.skip c.self.invariant c.requires.levels c.requires.child c.requires.skip l c.from.ensures c.from-2.ensures).aligned

pub returns : goal.returns
returns c =
    let l : c.self.inside.len + (5 * c.args.levels + 5) ≤ 128 = omega (arith, path_length {n = c.self.inside.len} _ c.self.view_is, c.requires.within) in
    (went_down c.self.inside.bits c.self.inside.len c.args.levels c.args.child c.args.skip c.self.invariant c.requires.levels c.requires.child c.requires.skip l c.from.ensures c.from-2.ensures).value ∙ ap (λ bs. bs ++ digits (5 * c.args.levels + 5) (c.args.child * 2 ^ (5 * c.args.levels) + c.args.skip)) c.self.view_is
