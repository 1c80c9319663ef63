use Rattle.std.proofs.Common.{◌≡◌, ◌-◌, ◌≤◌, length, map, take}
use Rattle.hop_index.specs.Indexes.{hop_of}
use Rattle.hop_index.specs.InnerNodes.{index_of}
use Rattle.hop_index.proofs.batches.store_all.Given as goal

abbrev pub invariant-loop-place : goal.invariant-loop-place
invariant-loop-place g l = record {
  within : l.place ≤ length l.addrs;
  done : take l.place l.hops ≡ map (λ addr. g.H.FromHop.of_hop (hop_of (index_of l.sides.v4 l.sides.v6) (g.A.Addressed.address addr))) (take l.place l.addrs);
}

abbrev pub decreases-loop-place : goal.decreases-loop-place
decreases-loop-place g l = length l.addrs - l.place
