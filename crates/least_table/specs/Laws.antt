-- The theorems about the fewest operations of a block, and about least tables, as statements.
use Rattle.std.specs.Prelude.{◌≡◌, ◌≢◌, ℕ, ◌+◌, Bool, true, false, List, [], length, Option, Some, None, ◌≤◌, ◌↔◌, ◌⊎◌}
use Rattle.ipnet_blocks.specs.Halves.{IsLesser}
use Rattle.least_table.specs.Nearest.{IsLeastDistance, IsNearestTable, distance}
use Rattle.least_table.specs.Tables.{IsLeastTable, IsBitTable, half, half_of, own, passed}
use Rattle.least_table.specs.Wholes.{without_own}

-- A block of one address needs no operation if its new hop is that of its installed route, or the inherited hop if it has no route.
-- Else it needs one.
abbrev pub HostLaw : Type 0
HostLaw = (h : List Bool → Option ℕ) (t : List (List Bool × Option ℕ)) → IsBitTable 0 t → (s : Option ℕ) (n : ℕ) →
    IsLeastDistance 0 h t s n ↔ (((h [] ≡ passed s (own t)) × (n ≡ 0)) ⊎ ((h [] ≢ passed s (own t)) × (n ≡ 1)))

-- Any other block needs the lesser of two numbers. The first is the sum of its halves if they inherit the hop of its installed route, or
-- the same hop as the block if it has no route. The second is one more than their least sum under any one hop, or under none.
abbrev pub HalvesLaw : Type 0
HalvesLaw = (w : ℕ) (h : List Bool → Option ℕ) (t : List (List Bool × Option ℕ)) → IsBitTable (w + 1) t → (f g : Option ℕ → ℕ) →
    ((k : Option ℕ) → IsLeastDistance w (half_of false h) (half t false) k (f k)) →
    ((k : Option ℕ) → IsLeastDistance w (half_of true h) (half t true) k (g k)) →
    (s : Option ℕ) (n : ℕ) → IsLeastDistance (w + 1) h t s n ↔ IsLesser f g (passed s (own t)) n

-- if a block inherits another hop, it needs at most one operation more
abbrev pub TwoValuesLaw : Type 0
TwoValuesLaw = (w : ℕ) (h : List Bool → Option ℕ) (t : List (List Bool × Option ℕ)) → IsBitTable w t → (s k : Option ℕ) (m n : ℕ) →
    IsLeastDistance w h t s m → IsLeastDistance w h t k n → m ≤ n + 1

-- a block with an installed route needs the same number whatever it inherits: the number without this route, under its hop
abbrev pub OwnLaw : Type 0
OwnLaw = (w : ℕ) (h : List Bool → Option ℕ) (t : List (List Bool × Option ℕ)) → IsBitTable w t → (k : Option ℕ) → own t ≡ Some k →
    (s : Option ℕ) (n : ℕ) → IsLeastDistance w h (without_own t) k n → IsLeastDistance w h t s n

-- the distance of a table from the empty one is the number of its routes, so a least table is one that is nearest to the empty table
abbrev pub EmptyLaw : Type 0
EmptyLaw = (w : ℕ) (h : List Bool → Option ℕ) (u : List (List Bool × Option ℕ)) → (distance [] u ≡ length u) × (IsLeastTable w h u ↔ IsNearestTable w h None [] u)
