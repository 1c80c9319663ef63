use Rattle.prefix_trie.proofs.Equality.{same_entries_of, same_members}
use Rattle.prefix_trie.proofs.laws.equality.Goals as goal

pub returns : goal.returns
returns c start = record { maps = same_entries_of; sets = same_members }
