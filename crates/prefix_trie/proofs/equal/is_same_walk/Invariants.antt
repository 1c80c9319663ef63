use Rattle.std.proofs.Common.{◌≡◌, length}
use Rattle.std.specs.Cmp.Lexicographic.{pointwise}
use Rattle.trie_core.specs.InnerWalks.{KeysWithin}
use Rattle.prefix_trie.specs.Equal.{same_entry}
use Rattle.prefix_trie.proofs.equal.is_same_walk.Given as goal

abbrev pub invariant-walk : goal.invariant-walk
invariant-walk g l = record {
  same : pointwise (same_entry g.T.PartialEq.eq) l.walk.0 l.other.0 ≡ pointwise (same_entry g.T.PartialEq.eq) l.initial.walk.0 l.initial.other.0;
  within : KeysWithin 128 l.walk.0;
}

abbrev pub decreases-walk : goal.decreases-walk
decreases-walk g l = length l.walk.0
