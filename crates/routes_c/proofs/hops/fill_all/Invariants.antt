use Rattle.std.proofs.Common.{◌≡◌, length, map, take}
use Rattle.routes_c.proofs.hops.fill_all.Given as goal

abbrev pub invariant-loop-place : goal.invariant-loop-place
invariant-loop-place g l = record {
  as_long : length l.hops ≡ length l.addrs;
  done : take l.place l.hops ≡ map (g.T.HopLookup.number l.table) (take l.place l.addrs);
}
