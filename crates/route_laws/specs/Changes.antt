-- The addresses that a change of a table changes, and tables made by changes.
use Rattle.std.specs.Prelude.{◌==◌, ℕ, Bool, true, false, not, List, [], ◌∷◌, Option, Some, None}
use Rattle.ipnet_addr.specs.Addresses.{Address}
use Rattle.route_choices.specs.Choices.{default_preference}
use Rattle.route_choices.specs.declared.hop.Hop.TheVariants.{Number}
use Rattle.route_laws.specs.Tables.{Route, hop_at, with_route}
use Rattle.route_laws.specs.Flats.{Piece}
use Rattle.route_laws.specs.Networks.{Stored, with_choice}

-- whether two hops of addresses are the same
abbrev pub same_number : Option ℕ → Option ℕ → Bool
same_number None None = true
same_number None (Some j) = false
same_number (Some k) None = false
same_number (Some k) (Some j) = k == j

-- the test of `Changed`
abbrev pub changed : List Route → List Route → Address → Bool
changed M N x = not (same_number (hop_at M x) (hop_at N x))

-- a piece of a flat list as a route
abbrev pub route_for : Piece → Route
route_for p = record { block = p.block; hop = Number p.number; pref = default_preference }

-- the table after an accepted `add` of each piece, in order
abbrev pub with_pieces : List Route → List Piece → List Route
with_pieces M [] = M
with_pieces M (p ∷ ps) = with_pieces (with_route M (route_for p)) ps

-- the networks after an accepted `add` of each piece with the default preference, in order
abbrev pub with_each : List Stored → List Piece → List Stored
with_each T [] = T
with_each T (p ∷ ps) = with_each (with_choice T p.block (record { hop = Number p.number; pref = default_preference })) ps
