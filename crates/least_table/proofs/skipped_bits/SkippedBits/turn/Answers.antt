use Rattle.std.proofs.Common.{◌-◌, ◌==◌, ◌∙◌, arith, ap, false, slice_index_or, sym}
use Rattle.std.proofs.lemmas.Nat.Bits.{shr_and_one}
use Rattle.trie_core.proofs.Aligned.{path_length}
use Rattle.least_table.proofs.PathBits.{bit_of_digits}
use Rattle.least_table.proofs.skipped_bits.SkippedBits.turn.Goals as goal

pub overflow_sub-result-2 : goal.overflow_sub-result-2
overflow_sub-result-2 c = omega (arith, path_length {n = c.self.inside.levels} c.self.inside.bits c.self.view_is, c.requires)

pub returns : goal.returns
returns c =
    let n = path_length {n = c.self.inside.levels} c.self.inside.bits c.self.view_is in
    ap (λ n. n == 1) (shr_and_one c.self.inside.bits (c.self.inside.levels - 1 - c.args.level)) ∙ sym (bit_of_digits c.self.inside.levels c.self.inside.bits c.args.level (omega (arith, n, c.requires))) ∙ ap (λ t. slice_index_or t c.args.level false) c.self.view_is
