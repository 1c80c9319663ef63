-- The remaining routes of either side.
use Rattle.std.specs.Prelude.{List}
use Rattle.route_laws.specs.Tables.{Route}
use Rattle.route_table.specs.declared.routes.Source.{Source}
use Rattle.route_table.specs.declared.routes.Source.TheVariants.{V4, V6}

-- the routes that are left, of either side
abbrev pub routes_left : Source → List Route
routes_left (V4 rs) = rs
routes_left (V6 rs) = rs
