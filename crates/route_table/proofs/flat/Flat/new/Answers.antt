use Rattle.std.proofs.Common.{arith}
use Rattle.ipnet_addr.specs.Addresses.{Ipv4, Ipv6}
use Rattle.route_table.proofs.FlatRuns.{table_left, table_right, whole_flat}
use Rattle.route_table.proofs.Painted.{greatest}
use Rattle.route_table.proofs.flat.Flat.new.Goals as goal

pub new-requires : goal.new-requires
new-requires c = (omega arith, (table_left c.args.v4 c.args.v6 c.requires.table, c.requires.ipv4))

pub new-requires-2 : goal.new-requires-2
new-requires-2 c = (omega arith, (table_right c.args.v4 c.args.v6 c.requires.table, c.requires.ipv6))

pub invariant_of-result : goal.invariant_of-result
invariant_of-result c = record {
  v4 = c.new.ensures.runs;
  v6 = c.new-2.ensures.runs;
  ipv4 = let g = greatest Ipv4 _ c.new.ensures.end in omega (arith, g);
  ipv6 = let g = greatest Ipv6 _ c.new-2.ensures.end in omega (arith, g);
}

pub returns : goal.returns
returns c = whole_flat c.args.v4 c.args.v6 c.requires.table c.requires.ipv4 c.requires.ipv6 c.none.result (record { v4 = c.new.result; v6 = c.new-2.result }) c.none.ensures c.new.ensures.hops c.new-2.ensures.hops
