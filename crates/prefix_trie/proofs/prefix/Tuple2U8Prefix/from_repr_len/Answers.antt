use Rattle.std.proofs.Common.{◌∙◌, sym, ap}
use Rattle.trie_core.proofs.Masked.{masked_number, length-prefix_bits}
use Rattle.prefix_trie.proofs.prefix.Tuple2U8Prefix.from_repr_len.Goals as goal

pub returns-clause-masked : goal.returns-clause-masked
returns-clause-masked g c = λ m i. (
  (sym (g.R.Key.named c.args.repr) ∙ ap g.R.Key.of_number (sym (masked_number g.R.Key.width (g.R.Key.number c.args.repr) c.args.len c.requires m))) i,
  sym (length-prefix_bits g.R.Key.width (g.R.Key.number c.args.repr) c.args.len) i,
)
