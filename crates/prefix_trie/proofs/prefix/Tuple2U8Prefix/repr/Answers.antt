use Rattle.std.proofs.Common.{ap}
use Rattle.trie_core.specs.Prefixes.{prefix_bits}
use Rattle.trie_core.proofs.Masked.{length-prefix_bits}
use Rattle.prefix_trie.proofs.prefix.Tuple2U8Prefix.repr.Goals as goal

pub returns-clause-bits : goal.returns-clause-bits
returns-clause-bits g c = ap (prefix_bits g.R.Key.width (g.R.Key.number c.args.self.now.0)) (length-prefix_bits g.R.Key.width (g.R.Key.number c.args.self.now.0) c.args.self.now.1)
