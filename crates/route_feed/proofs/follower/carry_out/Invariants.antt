use Rattle.std.proofs.Common.{◌≡◌, take}
use Rattle.ipnet_addr.specs.Addresses.{Address, IsAddress}
use Rattle.route_laws.specs.Networks.{routes_of}
use Rattle.route_laws.specs.Tables.{hop_at}
use Rattle.route_feed.specs.Streams.{painted_over}
use Rattle.route_feed.specs.InnerWaiting.{changes_of}
use Rattle.route_feed.proofs.follower.carry_out.Given as goal

abbrev pub invariant-loop-change : goal.invariant-loop-change
invariant-loop-change l = (x : Address) → IsAddress x → hop_at (routes_of l.table) x ≡ painted_over (hop_at (routes_of l.fn.table) x) (changes_of (take l.change-index l.changes)) x
