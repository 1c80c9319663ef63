use Rattle.prefix_trie.proofs.Ascending.{prefixes_ascend, strings_ascend}
use Rattle.prefix_trie.proofs.laws.walks.Goals as goal

pub returns : goal.returns
returns c = record { order = strings_ascend; cover = prefixes_ascend }
