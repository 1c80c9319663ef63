use Rattle.prefix_trie.proofs.Governed.{governed_match}
use Rattle.prefix_trie.proofs.laws.matches.Goals as goal

pub returns : goal.returns
returns c start = record { governed = governed_match }
