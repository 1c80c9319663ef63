use Rattle.std.proofs.Common.{◌≤◌, length, IfSome}
use Rattle.prefix_trie.specs.Retain.{AnswersAt}
use Rattle.prefix_trie.proofs.Asked.{IsAsked, left_count}
use Rattle.prefix_trie.proofs.map.PrefixMap.take_refused.Given as goal

abbrev pub invariant-entry : goal.invariant-entry
invariant-entry g l = record {
  within : IfSome l.next (λ q. (length q ≤ 128) × (length q ≤ g.P.R.Key.width));
  asked : IsAsked (AnswersAt g.F.FnMut g.P.Prefix.fits g.P.Prefix.bits g.P.Prefix.of_bits) l.fn.f l.fn.self.entries l.f l.self.entries l.next;
}

abbrev pub decreases-entry : goal.decreases-entry
decreases-entry g l = left_count l.next l.self.entries
