use Rattle.std.proofs.Common.{◌≡◌}
use Rattle.std.specs.FinMap.{empty}
use Rattle.prefix_trie.specs.Made.{inserted}
use Rattle.prefix_trie.proofs.map.PrefixMap.try_from_iter.Given as goal

abbrev pub invariant-loop-prefix : goal.invariant-loop-prefix
invariant-loop-prefix g l = record {
  map : l.made.entries ≡ inserted g.P.Prefix.bits empty l.yielded;
  tidy : l.made.spares ≡ empty;
}
