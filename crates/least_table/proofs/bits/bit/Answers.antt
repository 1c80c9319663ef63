use Rattle.std.proofs.Common.{◌==◌, ◌-◌, ◌∙◌, ap}
use Rattle.std.proofs.lemmas.Nat.Bits.{shr_and_one}
use Rattle.least_table.proofs.PathBits.{bit_at_top}
use Rattle.least_table.proofs.bits.bit.Goals as goal

pub returns : goal.returns
returns c = ap (λ n. n == 1) (shr_and_one c.to_bits.result (127 - c.args.index)) ∙ bit_at_top c.to_bits.result c.args.index c.args.path.now c.to_bits.ensures.bits c.requires.inside c.requires.short
