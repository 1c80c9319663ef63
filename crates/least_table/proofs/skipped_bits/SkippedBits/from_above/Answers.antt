use Rattle.std.proofs.Common.{◌+◌, ◌*◌, ◌%◌, ◌^◌, ◌∷◌, ◌∙◌, arith, ap}
use Rattle.ipnet_blocks.specs.Blocks.{digits}
use Rattle.trie_core.proofs.Longer.{as_number}
use Rattle.least_table.proofs.PathBits.{one_above}
use Rattle.least_table.proofs.skipped_bits.SkippedBits.from_above.Goals as goal

pub returns : goal.returns
returns c =
    let n = c.self.inside.levels in
    let q = c.self.inside.bits in
    ap (λ b. digits (n + 1) (b * 2 ^ n % 65536 + q)) (c.from.ensures ∙ as_number c.args.is_upper) ∙ one_above n q c.args.is_upper (omega (arith, c.if-self-ge-MOST.false)) c.self.invariant.1 ∙ ap (λ ds. c.args.is_upper ∷ ds) c.self.view_is
