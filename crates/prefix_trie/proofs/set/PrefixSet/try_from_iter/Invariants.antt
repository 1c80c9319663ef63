use Rattle.std.proofs.Common.{◌≡◌, map}
use Rattle.std.specs.FinMap.{empty}
use Rattle.prefix_trie.specs.Made.{inserted}
use Rattle.prefix_trie.proofs.set.PrefixSet.try_from_iter.Given as goal

abbrev pub invariant-item : goal.invariant-item
invariant-item g l = record {
  set : l.made.entries ≡ inserted g.P.Prefix.bits empty (map (λ p. (p, tt)) l.yielded);
  tidy : l.made.spares ≡ empty;
}
