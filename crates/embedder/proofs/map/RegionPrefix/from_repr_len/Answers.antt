use Rattle.std.proofs.Common.{sym}
use Rattle.trie_core.proofs.Masked.{masked_number, length-prefix_bits}
use Rattle.embedder.proofs.map.RegionPrefix.from_repr_len.Goals as goal

pub returns-clause-masked : goal.returns-clause-masked
returns-clause-masked c = λ m i. record { label = sym (masked_number 16 c.args.repr c.args.len c.requires m) i; len = sym (length-prefix_bits 16 c.args.repr c.args.len) i }
