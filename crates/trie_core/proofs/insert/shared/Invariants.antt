use Rattle.std.proofs.Common.{◌*◌, ◌-◌, ◌/◌, ◌^◌, ◌<◌}
use Rattle.trie_core.specs.InnerChains.{Starts}
use Rattle.trie_core.proofs.insert.shared.Given as goal

abbrev pub invariant-level : goal.invariant-level
invariant-level l = record {
  fewer : l.count < l.levels;
  starts : Starts l.count (l.skip / 2 ^ (5 * (l.levels - l.count))) l.path;
}

abbrev pub decreases-level : goal.decreases-level
decreases-level l = l.levels - l.count
