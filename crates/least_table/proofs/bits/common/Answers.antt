use Rattle.least_table.proofs.PathBits.{parted}
use Rattle.least_table.proofs.bits.common.Goals as goal

pub returns : goal.returns
returns c = parted c.to_bits.result c.to_bits-2.result c.args.path.now c.args.other.now c.requires.before c.requires.short c.requires.other_short c.to_bits.ensures.bits c.to_bits.ensures.masked c.to_bits-2.ensures.bits c.to_bits-2.ensures.masked
