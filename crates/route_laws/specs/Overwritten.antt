-- A table with the routes inside a block replaced by one route.
use Rattle.std.specs.Prelude.{not, List, filter}
use Rattle.ipnet_blocks.specs.Blocks.{Block, is_inside}
use Rattle.route_laws.specs.Tables.{Route, with_route}

-- the routes that are not inside n
abbrev pub without_inside : List Route → Block → List Route
without_inside M n = filter (λ s. not (is_inside s.block n)) M

-- the table with the route in place of all routes inside its block
abbrev pub overwritten : List Route → Route → List Route
overwritten M r = with_route (without_inside M r.block) r
