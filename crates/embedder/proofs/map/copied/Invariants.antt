use Rattle.std.proofs.Common.{◌≡◌}
use Rattle.std.specs.FinMap.{entries}
use Rattle.prefix_trie.specs.Made.{inserted}
use Rattle.embedder.proofs.map.copied.Given as goal

abbrev pub invariant-loop-key : goal.invariant-loop-key
invariant-loop-key g l = inserted (λ s. s) l.other.entries l.key-iterator ≡ inserted (λ s. s) l.fn.other.entries (entries l.map.entries)
