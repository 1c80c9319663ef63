-- The command lines that make a table of routes.
use Rattle.std.specs.Prelude.{ℕ, List, ◌++◌, codes, flat_map}
use Rattle.ipnet.specs.IpNets.{network_at}
use Rattle.ipnet.specs.IpNetText.{net_text}
use Rattle.route_lines.specs.Texts.{hop_text}
use Rattle.route_laws.specs.Tables.{Route}

-- the line `add NET HOP` of each route
abbrev pub add_lines : List Route → List ℕ
add_lines routes = flat_map (λ r. codes "add " ++ net_text (network_at r.block) ++ codes " " ++ hop_text r.hop ++ codes "\n") routes
