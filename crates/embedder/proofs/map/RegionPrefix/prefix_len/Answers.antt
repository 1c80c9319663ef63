use Rattle.std.proofs.Common.{sym}
use Rattle.trie_core.proofs.Masked.{length-prefix_bits}
use Rattle.embedder.proofs.map.RegionPrefix.prefix_len.Goals as goal

pub returns-clause-value : goal.returns-clause-value
returns-clause-value c = sym (length-prefix_bits 16 c.args.self.now.label c.args.self.now.len)
