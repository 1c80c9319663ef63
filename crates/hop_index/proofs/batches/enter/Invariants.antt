use Rattle.std.proofs.Common.{◌≡◌, ℕ, ◌<◌, get_or}
use Rattle.ipnet_addr.specs.Addresses.{Ipv4}
use Rattle.hop_index.specs.InnerNodes.{LeadsAddress, hop_in_entry}
use Rattle.hop_index.proofs.batches.enter.Given as goal

abbrev pub invariant-loop-place : goal.invariant-loop-place
invariant-loop-place g l = record {
  entries : (k : ℕ) (a : _) (e : ℕ) → k < l.place → LeadsAddress l.sides.v4 l.sides.v6 (g.A.Addressed.address (get_or l.addrs k a)) (get_or l.entries k e);
  hops : (k e : ℕ) (a : _) (h : _) → k < l.place → (g.A.Addressed.address (get_or l.addrs k a)).family ≡ Ipv4 → get_or l.hops k h ≡ g.H.FromHop.of_hop (hop_in_entry (get_or l.entries k e));
}
