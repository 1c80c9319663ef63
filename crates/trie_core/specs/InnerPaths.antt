-- Bit strings in the top bits of a word.
use Rattle.std.specs.Prelude.{ℕ, ◌≤◌}
use Rattle.trie_core.specs.Prefixes.{IsMasked}

-- the first len of 128 bits, followed by zeros
pub record IsAligned (bits len : ℕ) : Type 0 where
  pub short : len ≤ 128
  pub masked : IsMasked 128 bits len
