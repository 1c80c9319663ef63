use Rattle.std.proofs.Common.{◌∙◌, sym, ap, take, length}
use Rattle.trie_core.proofs.Masked.{take-prefix_bits}
use Rattle.trie_core.proofs.cover.front.Goals as goal

pub returns : goal.returns
returns c = c.new.ensures ∙ sym (take-prefix_bits 128 c.to_bits.result (length c.args.path.now) c.args.len c.requires.fits c.requires.within) ∙ ap (take c.args.len) c.to_bits.ensures.bits
