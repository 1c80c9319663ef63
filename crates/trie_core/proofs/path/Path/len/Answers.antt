use Rattle.trie_core.proofs.Aligned.{path_length}
use Rattle.trie_core.proofs.path.Path.len.Goals as goal

pub returns : goal.returns
returns c = path_length _ c.self.view_is
