-- Spans of numbers, which networks are aggregated by.
use Rattle.std.specs.Prelude.{ℕ, ◌+◌, ◌<◌, ◌≤◌, ◌↔◌, List, All, AllPairs, Any}
use Rattle.ipnet_addr.specs.Addresses.{Family}
use Rattle.ipnet_blocks.specs.Blocks.{first, last}
use Rattle.ipnet_blocks.specs.Networks.{Network, block_of}
use Rattle.ipnet_blocks.specs.Cuts.{Limits}
use Rattle.ipnet_blocks.specs.declared.aggregate.Span.{Span}

-- the number is in the span
abbrev pub IsIn : ℕ → Span → Type 0
IsIn x s = (s.first ≤ x) × (x ≤ s.last)

-- the span isn't empty
abbrev pub HasNumber : Span → Type 0
HasNumber s = s.first ≤ s.last

-- the numbers of a network's addresses
abbrev pub span_of : Family → Network → Span
span_of f n = record { first = first (block_of f n); last = last (block_of f n) }

-- the limits of a subnet iterator over the blocks of the span
abbrev pub limits_of : Span → Limits
limits_of s = record { start = s.first; end = s.last; shortest = 0 }

-- there is a number between the two spans
abbrev pub IsApart : Span → Span → Type 0
IsApart a b = a.last + 1 < b.first

-- ascending spans with gaps between them that have the same numbers as the given spans
pub record AreJoined (given spans : List Span) : Type 0 where
  pub same : (x : ℕ) → Any (IsIn x) given ↔ Any (IsIn x) spans
  pub apart : AllPairs IsApart spans
  pub some : All HasNumber spans
