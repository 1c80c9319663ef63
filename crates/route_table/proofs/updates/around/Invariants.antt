use Rattle.std.proofs.Common.{◌≡◌, ◌≤◌, ◌⊎◌, true, length}
use Rattle.ipnet_addr.specs.Addresses.{width}
use Rattle.ipnet_addr.proofs.Members.{In}
use Rattle.ipnet_blocks.specs.BitStrings.{begins}
use Rattle.ipnet_blocks.specs.Blocks.{bit_string}
use Rattle.route_laws.specs.Networks.{routes_of}
use Rattle.route_laws.specs.Tables.{Route}
use Rattle.route_table.proofs.updates.around.Given as goal

-- the block contains each network that is not left
abbrev pub invariant-loop-path : goal.invariant-loop-path
invariant-loop-path g l = (length l.block ≤ width g.P.FamilyNet.family) × ((r : Route) → In r (routes_of l.side) → (begins l.block (bit_string r.block) ≡ true) ⊎ In r l.routes)

abbrev pub decreases-loop-path : goal.decreases-loop-path
decreases-loop-path g l = length l.routes
