use Rattle.std.proofs.Common.{◌≡◌, ℕ, ◌+◌, ◌*◌, ◌<◌, ◌≤◌, All, AllPairs, length}
use Rattle.hop_index.proofs.cells.tops_of.Given as goal

abbrev pub invariant-loop-chunk : goal.invariant-loop-chunk
invariant-loop-chunk g l = record {
  all : length l.tops.items ≡ l.chunk;
  within : l.place ≤ length l.ranges;
  few : l.first ≤ 3 * l.place + l.chunk;
  below : All (λ t. t < l.first) l.tops.items;
  rising : AllPairs (λ (c d : ℕ). c < d) l.tops.items;
}
