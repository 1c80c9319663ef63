use Rattle.std.proofs.Common.{ap, nat_lt}
use Rattle.trie_core.proofs.Aligned.{path_length}
use Rattle.trie_core.proofs.path.Path.is_short.Goals as goal

pub returns : goal.returns
returns c = ap (λ n. nat_lt n 5) (path_length _ c.self.view_is)
