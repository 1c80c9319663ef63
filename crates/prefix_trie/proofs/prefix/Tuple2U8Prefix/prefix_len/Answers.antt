use Rattle.std.proofs.Common.{sym}
use Rattle.trie_core.proofs.Masked.{length-prefix_bits}
use Rattle.prefix_trie.proofs.prefix.Tuple2U8Prefix.prefix_len.Goals as goal

pub returns-clause-value : goal.returns-clause-value
returns-clause-value g c = sym (length-prefix_bits g.R.Key.width (g.R.Key.number c.args.self.now.0) c.args.self.now.1)
