use Rattle.std.proofs.Common.{◌≡◌, ◌≤◌, All, length}
use Rattle.ipnet_blocks.specs.Blocks.{first, last}
use Rattle.ipnet_blocks.specs.Networks.{block_of}
use Rattle.route_laws.specs.Networks.{routes_of}
use Rattle.route_laws.specs.Tables.{routes_inside}
use Rattle.route_table.specs.InnerGoverning.{gaps}
use Rattle.route_table.proofs.covered.FamilyTable+P+1.governs_none.Given as goal

-- the gaps are those between the routes that are left
abbrev pub invariant-loop-len : goal.invariant-loop-len
invariant-loop-len g l =
    let n = block_of g.P.FamilyNet.family (g.P.FamilyNet.parts l.fn.net) in
    (l.at ≤ l.whole.last) × All (λ r. last r.block ≤ l.whole.last) l.inside
    × (gaps n.len (first n) (last n) (routes_inside (routes_of l.fn.self) n) ≡ gaps n.len l.at l.whole.last l.inside)

abbrev pub decreases-loop-len : goal.decreases-loop-len
decreases-loop-len g l = length l.inside
