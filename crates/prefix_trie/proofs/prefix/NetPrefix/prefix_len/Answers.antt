use Rattle.std.proofs.Common.{◌∙◌, sym}
use Rattle.ipnet_blocks.proofs.Strings.{length-digits}
use Rattle.prefix_trie.proofs.prefix.NetPrefix.prefix_len.Goals as goal

pub returns-clause-value : goal.returns-clause-value
returns-clause-value g c = c.prefix_len.ensures.value ∙ sym (length-digits c.args.self.now.len _)
