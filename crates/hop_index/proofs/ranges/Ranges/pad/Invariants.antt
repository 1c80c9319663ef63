use Rattle.std.proofs.Common.{ℕ, ◌≡◌, ◌+◌, ◌^◌, ◌<◌, ◌≤◌, length}
use Rattle.hop_index.specs.Ranges.{hop_in}
use Rattle.hop_index.specs.InnerRanges.{AreAscending, EndBelow, range_at}
use Rattle.hop_index.proofs.ranges.Ranges.pad.Given as goal

abbrev pub invariant-loop : goal.invariant-loop
invariant-loop g l = record {
  ascending : AreAscending l.self;
  within : EndBelow (2 ^ g.N.Key.width) l.self;
  all : length l.self ≡ length l.initial.self + l.counter;
  pads : 0 < l.counter → 2 ^ g.N.Key.width ≤ (range_at l.self (length l.initial.self)).last + 1;
  hops : (x : ℕ) → hop_in l.self x ≡ hop_in l.initial.self x;
}
