use Rattle.std.proofs.Common.{ℕ, ◌<◌, ◌≤◌, ◌∷◌, [], ◌++◌, length, take, slice_index_or}
use Rattle.ipnet_blocks.specs.declared.aggregate.Span.{Span}
use Rattle.ipnet_blocks.specs.InnerSpans.{AreJoined}
use Rattle.ipnet_blocks.proofs.aggregate.joined.Given as goal

-- the spans so far are joined, and no later one begins before the open one
abbrev pub invariant-loop-span : goal.invariant-loop-span
invariant-loop-span l = record {
  so_far : AreJoined (l.initial.open ∷ take l.span-index l.rest) (l.joined.items ++ l.open ∷ []);
  later : (k : ℕ) (d : Span) → l.span-index ≤ k → k < length l.rest → l.open.first ≤ (slice_index_or l.rest k d).first;
}
