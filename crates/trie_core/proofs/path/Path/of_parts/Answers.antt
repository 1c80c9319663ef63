use Rattle.ipnet_blocks.proofs.Strings.{length-digits}
use Rattle.trie_core.proofs.path.Path.of_parts.Goals as goal

pub returns-clause-len : goal.returns-clause-len
returns-clause-len c = length-digits c.args.len _
