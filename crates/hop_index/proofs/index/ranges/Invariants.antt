use Rattle.std.proofs.Common.{ℕ, length, Option}
use Rattle.ipnet_addr.specs.Addresses.{Address, Ipv4, Ipv6}
use Rattle.route_laws.specs.Flats.{IsFlat}
use Rattle.hop_index.proofs.Walks.{Walked}
use Rattle.hop_index.proofs.index.ranges.Given as goal

abbrev pub invariant-run : goal.invariant-run
invariant-run l = record {
  ipv4 : (h : Address → Option ℕ) → IsFlat h l.initial.flat → Walked h l.initial.flat Ipv4 l.v4 l.flat;
  ipv6 : (h : Address → Option ℕ) → IsFlat h l.initial.flat → Walked h l.initial.flat Ipv6 l.v6 l.flat;
}

abbrev pub decreases-run : goal.decreases-run
decreases-run l = length l.flat
