use Rattle.prefix_trie.proofs.Lent.{still}
use Rattle.prefix_trie.proofs.iter_mut.IterMut.next.Goals as goal

pub invariant_of-self-lent : goal.invariant_of-self-lent
invariant_of-self-lent g c = λ w. (c.args.self.now.whole, (c.key_within-self.ensures.begun, (still c.args.self.now.map.now.entries c.in-Some.path w g.P.R.Key.width c.key_within-self.result c.key_within-self.ensures.stored, tt)))
