use Rattle.trie_core.proofs.Aligned.{five}
use Rattle.trie_core.proofs.path.Path.five.Goals as goal

pub returns-clause-value : goal.returns-clause-value
returns-clause-value c = five c.self.inside.bits c.self.inside.len c.self.invariant c.self.view_is
