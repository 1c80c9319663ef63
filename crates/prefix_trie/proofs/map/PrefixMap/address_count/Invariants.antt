use Rattle.std.proofs.Common.{length, option_map, IfSome, IsTrue}
use Rattle.prefix_trie.specs.Covered.{covered_count}
use Rattle.prefix_trie.proofs.Covered.{IsCounting}
use Rattle.prefix_trie.proofs.map.PrefixMap.address_count.Given as goal

abbrev pub invariant-walk : goal.invariant-walk
invariant-walk g l = record {
  counting : IsCounting g.P.R.Key.width (covered_count g.P.R.Key.width l.self.entries) l.left (option_map g.P.Prefix.bits l.last) l.walk.0;
  last_fits : IfSome l.last (λ b. IsTrue (g.P.Prefix.fits b));
}

abbrev pub decreases-walk : goal.decreases-walk
decreases-walk g l = length l.walk.0
