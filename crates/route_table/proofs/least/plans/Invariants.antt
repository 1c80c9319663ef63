use Rattle.ipnet_addr.specs.Addresses.{Ipv4, Ipv6}
use Rattle.route_table.proofs.FlatPieces.{ArePlanned}
use Rattle.route_table.proofs.least.plans.Given as goal

abbrev pub invariant-loop-net : goal.invariant-loop-net
invariant-loop-net l = record {
  v4 : ArePlanned Ipv4 l.initial.net-iterator l.v4 l.net-iterator;
  v6 : ArePlanned Ipv6 l.initial.net-iterator l.v6 l.net-iterator;
}
