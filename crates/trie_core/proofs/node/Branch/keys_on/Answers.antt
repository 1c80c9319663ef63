use Rattle.trie_core.proofs.Seen.{seen}
use Rattle.trie_core.proofs.Searches.{none_here}
use Rattle.trie_core.proofs.Matches.{longest_at}
use Rattle.trie_core.proofs.node.Branch.keys_on.Goals as goal

pub returns-clause-none : goal.returns-clause-none
returns-clause-none g c z = none_here c.args.path.now c.beginnings.result (seen c.self.invariant c.self.view_is) c.beginnings.ensures.mask z

pub returns-clause-last : goal.returns-clause-last
returns-clause-last g c n l = longest_at c.args.path.now c.beginnings.result n (seen c.self.invariant c.self.view_is) c.beginnings.ensures.mask l
