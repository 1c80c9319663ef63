-- Worked rows: a host of a small table, and pieces added to a table.
use Rattle.std.proofs.Common.{◌≡◌, map, [], ◌∷◌, Some, inr, ⊎_elim, List, None, refl, sym, subst, arith}
use Rattle.ipnet_addr.specs.Addresses.{Ipv4, Address}
use Rattle.ipnet_blocks.specs.Blocks.{Block, IsBlock, host}
use Rattle.ipnet_blocks.proofs.Maximals.{host_is_block}
use Rattle.route_choices.specs.Hops.{IsHop}
use Rattle.route_choices.specs.declared.hop.Hop.TheVariants.{Number}
use Rattle.route_laws.specs.Changes.{route_for, with_each}
use Rattle.route_laws.specs.Fewest.{IsFewest}
use Rattle.route_laws.specs.Flats.{Piece}
use Rattle.route_laws.specs.Laws.{one_route}
use Rattle.route_laws.specs.Networks.{choices_at, routes_of}
use Rattle.route_laws.specs.Tables.{Route, IsTable, hop_at}
use Rattle.route_laws.proofs.Insides.{fewest_of_host, table_of}
use Rattle.route_laws.proofs.FlatTables.{hops_of_table}

-- 10.0.0.0/8
abbrev ten : Block
ten = record { family = Ipv4; len = 8; quotient = 10 }

ten_is_block : IsBlock ten
ten_is_block = record { in_width = omega arith; in_range = omega arith }

-- 10.0.0.0/8 7
abbrev sevens : List Route
sevens = one_route ten 7

sevens_is_table : IsTable sevens
sevens_is_table = table_of sevens (λ r i. ⊎_elim (λ e. subst (λ (s : Route). IsBlock s.block × IsHop s.hop) (sym e) (ten_is_block, omega arith)) (λ j. absurd j) i) ((λ r i. absurd i), tt)

-- 10.0.0.1
abbrev inner : Address
inner = record { family = Ipv4; number = 167772161 }

-- its hop is one that a route can have, so `FewestOfHost` holds of it: its block needs one route where nothing is handed down
inner_row : IsFewest (hop_at sevens) (host inner) None 1
inner_row = (fewest_of_host (hop_at sevens) (hops_of_table sevens sevens_is_table) (host inner) (host_is_block inner (omega arith)) refl None 1).1 (inr ((λ e. cc), refl))

-- 10.0.0.0/9 7
abbrev lower : Piece
lower = record { block = record { family = Ipv4; len = 9; quotient = 20 }; number = 7 }

-- 10.128.0.0/9 8
abbrev upper : Piece
upper = record { block = record { family = Ipv4; len = 9; quotient = 21 }; number = 8 }

-- added to an empty table they are its best routes
best_row : routes_of (with_each [] (lower ∷ upper ∷ [])) ≡ map route_for (lower ∷ upper ∷ [])
best_row = refl

-- the second is new when it is added
new_row : choices_at (with_each [] (lower ∷ [])) (Piece.block upper) ≡ []
new_row = refl

-- in any order
order_row : with_each [] (upper ∷ lower ∷ []) ≡ with_each [] (lower ∷ upper ∷ [])
order_row = refl

-- with their hops: at 10.0.0.1, 10.128.0.0 and 11.0.0.0
hops_row : map (λ n. hop_at (map route_for (lower ∷ upper ∷ [])) (record { family = Ipv4; number = n })) (167772161 ∷ 176160768 ∷ 184549376 ∷ []) ≡ Some 7 ∷ Some 8 ∷ None ∷ []
hops_row = refl

-- in a table that has 10.0.0.0/9 by 9 with the preference 200 they are not its best routes
other_row : routes_of (with_each (record { block = Piece.block lower; choices = record { hop = Number 9; pref = 200 } ∷ [] } ∷ []) (lower ∷ upper ∷ []))
    ≡ record { block = Piece.block lower; hop = Number 9; pref = 200 } ∷ route_for upper ∷ []
other_row = refl
