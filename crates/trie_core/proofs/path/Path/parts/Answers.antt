use Rattle.trie_core.proofs.Aligned.{path_length}
use Rattle.trie_core.proofs.path.Path.parts.Goals as goal

pub returns-clause-len : goal.returns-clause-len
returns-clause-len c = path_length _ c.self.view_is
