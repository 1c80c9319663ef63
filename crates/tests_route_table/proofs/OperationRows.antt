-- Worked rows: the definitions, computed.
use Rattle.std.proofs.Common.{◌≡◌, ℕ, List, [], ◌∷◌, refl, map, take, Some}
use Rattle.ipnet_addr.specs.Addresses.{Ipv4, Address}
use Rattle.ipnet_blocks.specs.Blocks.{Block}
use Rattle.route_choices.specs.declared.hop.Hop.{Hop}
use Rattle.route_choices.specs.declared.hop.Hop.TheVariants.{Number, Drop}
use Rattle.route_laws.specs.Tables.{Route, hop_at}
use Rattle.route_laws.specs.Operations.{Install, Remove, after_all, between}
use Rattle.route_laws.specs.Painted.{most_operations, painted, painted_all}
use Rattle.route_laws.specs.Runs.{Event, Have, Sync, Told, given, haves, start}

abbrev net : ℕ → ℕ → Block
net len quotient = record { family = Ipv4; len = len; quotient = quotient }

abbrev route : ℕ → ℕ → Hop → Route
route len quotient hop = record { block = net len quotient; hop = hop; pref = 100 }

abbrev at : ℕ → Address
at number = record { family = Ipv4; number = number }

-- 10.0.0.0/8 1, 10.0.0.0/9 2, 10.0.0.0/16 1
abbrev old : List Route
old = route 8 10 (Number 1) ∷ route 9 20 (Number 2) ∷ route 16 2560 (Number 1) ∷ []

-- 10.0.0.0/8 2, 10.0.0.0/16 1, 10.128.0.0/9 1
abbrev new : List Route
new = route 8 10 (Number 2) ∷ route 16 2560 (Number 1) ∷ route 9 21 (Number 1) ∷ []

-- install 10.128.0.0/9 1, install 10.0.0.0/8 2, remove 10.0.0.0/9
between_row : between old new ≡ Install (route 9 21 (Number 1)) ∷ Install (route 8 10 (Number 2)) ∷ Remove (net 9 20) ∷ []
between_row = refl

reached_row : after_all old (between old new) ≡ new
reached_row = refl

-- the hop of 10.128.0.0 stays on the way, where 10.0.0.0/8 2 alone would turn it twice
way_row : map (λ i. hop_at (after_all old (take i (between old new))) (at 176160768)) (0 ∷ 1 ∷ 2 ∷ 3 ∷ []) ≡ Some 1 ∷ Some 1 ∷ Some 1 ∷ Some 1 ∷ []
way_row = refl

-- the same operations, outer before inner: the address turns twice
naive_row : map (λ i. hop_at (after_all old (take i (Install (route 8 10 (Number 2)) ∷ Install (route 9 21 (Number 1)) ∷ Remove (net 9 20) ∷ []))) (at 176160768)) (0 ∷ 1 ∷ 2 ∷ 3 ∷ []) ≡ Some 1 ∷ Some 2 ∷ Some 1 ∷ Some 1 ∷ []
naive_row = refl

-- all of 10.0.0.0/9 to 1: it inherits 1, so no route is left there
inherited_row : painted old (route 9 20 (Number 1)) ≡ route 8 10 (Number 1) ∷ []
inherited_row = refl

-- no hop for 10.0.0.0/9
unset_row : painted old (route 9 20 Drop) ≡ route 8 10 (Number 1) ∷ route 9 20 Drop ∷ []
unset_row = refl

-- all of 10.0.0.0/9 to 2, which its route has, and a longer route inside has not
again_row : painted old (route 9 20 (Number 2)) ≡ route 8 10 (Number 1) ∷ route 9 20 (Number 2) ∷ []
again_row = refl

-- two changes: one operation each at most, and one for 10.0.0.0/16
two_row : painted_all old (route 9 20 (Number 3) ∷ route 9 21 (Number 3) ∷ []) ≡ route 8 10 (Number 1) ∷ route 9 20 (Number 3) ∷ route 9 21 (Number 3) ∷ []
two_row = refl

most_row : most_operations old (route 9 20 (Number 3) ∷ route 9 21 (Number 3) ∷ []) ≡ 3
most_row = refl

-- 10.0.0.0/8 1 is installed already, and a change is reported; then a least table, and two changes of one reply that take one operation
abbrev run : List Event
run =
    Have (route 8 10 (Number 1)) ∷ Told (route 8 10 (Number 2) ∷ []) []
    ∷ Sync (route 8 10 (Number 2) ∷ [])
    ∷ Told (route 9 20 (Number 4) ∷ route 9 21 (Number 4) ∷ []) (route 8 10 (Number 4) ∷ []) ∷ []

run_row : given start run ≡ Install (route 8 10 (Number 2)) ∷ Install (route 8 10 (Number 4)) ∷ []
run_row = refl

run_reached_row : after_all (haves run) (given start run) ≡ route 8 10 (Number 4) ∷ []
run_reached_row = refl
