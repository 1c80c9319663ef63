use Rattle.std.proofs.Common.{◌≡◌, length}
use Rattle.ipnet_blocks.specs.Blocks.{Block, IsBefore}
use Rattle.ipnet.specs.IpNets.{block}
use Rattle.route_laws.specs.LeastTables.{routes_for}
use Rattle.route_laws.specs.Tables.{is_stored}
use Rattle.route_table.specs.InnerBetween.{AreComing, routes_left}
use Rattle.route_table.proofs.between.Removes.passes_to.Given as goal

-- what was passed comes before the network
abbrev pub invariant-loop-first : goal.invariant-loop-first
invariant-loop-first l = AreComing l.self.coming.now × (routes_left l.self ≡ routes_left l.initial.self)
    × ((b : Block) → (IsBefore b (block l.net) → ⊥) → is_stored (routes_for l.self.coming.now) b ≡ is_stored (routes_for l.initial.self.coming.now) b)

abbrev pub decreases-loop-first : goal.decreases-loop-first
decreases-loop-first l = length l.self.coming.now
