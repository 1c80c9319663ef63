-- Networks, hops and routes in the layout of C.
use Rattle.std.specs.Prelude.{ℕ, ◌/◌, ◌%◌, ◌^◌, nat_lt, if◌then◌else◌, List, Option, Some, None, option_map}
use Rattle.ipnet.specs.IpNets.{network_at}
use Rattle.ipnet.specs.declared.ip_net.IpNet.{IpNet}
use Rattle.ipnet.specs.declared.ip_net.IpNet.TheVariants.{V4, V6}
use Rattle.ipnet_blocks.specs.Blocks.{Block}
use Rattle.route_choices.specs.declared.hop.Hop.{Hop}
use Rattle.route_choices.specs.declared.hop.Hop.TheVariants.{Number, Drop}
use Rattle.route_laws.specs.Flats.{Piece as FlatPiece}
use Rattle.route_laws.specs.Networks.{Stored, routes_of}
use Rattle.route_laws.specs.Tables.{item_of, match_of}
use Rattle.routes_c.specs.declared.shown.Piece.{Piece}
use Rattle.routes_c.specs.declared.shown.Route.{Route}

-- the hop of a number: `drop` from 2^32 on
abbrev pub given_hop : ℕ → Hop
given_hop k = if nat_lt k (2 ^ 32) then Number k else Drop

-- the number of a hop: 2^32 for `drop`
abbrev pub hop_shown : Hop → ℕ
hop_shown (Number k) = k
hop_shown Drop = 2 ^ 32

-- the hop of a lookup's result as one number: 2^32 for `drop`, and 2^33 for no match
abbrev pub match_shown : Option (IpNet × Hop × ℕ) → ℕ
match_shown None = 2 ^ 33
match_shown (Some f) = hop_shown f.1

-- the route in the layout of C: the address of an IPv6 network in two halves
abbrev pub shown : IpNet → Hop → ℕ → Route
shown (V4 n) k p = record { high = 0; low = n.number; hop = hop_shown k; pref = p; family = 4; len = n.len }
shown (V6 n) k p = record { high = n.number / 2 ^ 64; low = n.number % 2 ^ 64; hop = hop_shown k; pref = p; family = 6; len = n.len }

-- the result of a lookup in the layout of C
abbrev pub found_shown : IpNet × Hop × ℕ → Route
found_shown f = shown f.0 f.1 f.2

-- the longest match of a block in a table, in the layout of C
abbrev pub found_at : List Stored → Block → Option Route
found_at T b = option_map found_shown (option_map item_of (match_of (routes_of T) b))

-- the block of a route, with this hop
abbrev pub piece_with_hop : Route → ℕ → Piece
piece_with_hop r k = record { high = r.high; low = r.low; hop = k; family = r.family; len = r.len }

-- a block with its hop
abbrev pub piece_shown : FlatPiece → Piece
piece_shown p = piece_with_hop (shown (network_at p.block) (Number p.number) 0) p.number
