use Rattle.std.proofs.Common.{ap}
use Rattle.trie_core.specs.Prefixes.{prefix_bits}
use Rattle.trie_core.proofs.Masked.{length-prefix_bits}
use Rattle.embedder.proofs.map.RegionPrefix.repr.Goals as goal

pub returns : goal.returns
returns c = ap (prefix_bits 16 c.args.self.now.label) (length-prefix_bits 16 c.args.self.now.label c.args.self.now.len)
