use Rattle.std.proofs.Common.{◌<◌, ◌≤◌, ℕ, get_or, length}
use Rattle.hop_index.specs.InnerNodes.{ArePlaces, HasOwnHop, IsUnlisted}
use Rattle.hop_index.proofs.batches.list_others.Given as goal

abbrev pub invariant-loop-place : goal.invariant-loop-place
invariant-loop-place g l = record {
  most : l.count ≤ l.place;
  places : ArePlaces (length l.addrs) l.count l.places;
  others : (k : ℕ) → k < l.place → IsUnlisted k 0 l.count l.places → (a : _) → HasOwnHop (g.A.Addressed.address (get_or l.addrs k a)) (get_or l.entries k 0);
}
