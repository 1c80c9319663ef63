-- The routes of one family: their number, and those from a network on.
use Rattle.std.specs.Prelude.{ℕ, not, ◌&&◌, List, length, filter}
use Rattle.ipnet_addr.specs.Addresses.{Family, same_family}
use Rattle.ipnet_blocks.specs.Blocks.{Block, is_before}
use Rattle.route_laws.specs.Tables.{Route}

-- the number of routes of a family
abbrev pub count_of : Family → List Route → ℕ
count_of f M = length (filter (λ r. same_family r.block.family f) M)

-- the routes of n's family that do not come before n
abbrev pub routes_from : List Route → Block → List Route
routes_from M n = filter (λ r. same_family r.block.family n.family && not (is_before r.block n)) M

-- the routes of n's family that come after n
abbrev pub routes_after : List Route → Block → List Route
routes_after M n = filter (λ r. same_family r.block.family n.family && is_before n r.block) M
