use Rattle.std.proofs.Common.{ap, ◌/◌}
use Rattle.trie_core.proofs.Aligned.{path_length}
use Rattle.trie_core.proofs.path.Path.depth.Goals as goal

pub returns : goal.returns
returns c = ap (λ n. n / 5) (path_length _ c.self.view_is)
