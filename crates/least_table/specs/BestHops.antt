-- The best inherited hops of a block: any hop, or those of a list.
use Rattle.std.specs.Prelude.{◌≡◌, ℕ, ◌+◌, Bool, true, cond, ◌&&◌, ◌||◌, List, Option, None}
use Rattle.least_table.specs.HopSets.{holds, meets, first_hop, extra_route}
use Rattle.least_table.specs.Nearest.{IsLeastDistance}

-- any hop or none, or the hops of a list
pub data Hops : Type 0 where
  Any : Hops
  Of : List (Option ℕ) → Hops

-- whether k is one of them
abbrev pub wants : Hops → Option ℕ → Bool
wants Any k = true
wants (Of ks) k = holds ks k

-- the first of them, or none if any hop is one of them
abbrev pub first_best_hop : Hops → Option ℕ
first_best_hop Any = None
first_best_hop (Of ks) = first_hop ks

-- the hop that a block without a route passes on: s if that is one of them, else the first of them
abbrev pub passed_on : Hops → Option ℕ → Option ℕ
passed_on hops s = cond (wants hops s) s (first_best_hop hops)

-- whether the two have a hop in common
abbrev pub agree : Hops → Hops → Bool
agree Any b = true
agree (Of as') Any = true
agree (Of as') (Of bs) = meets as' bs

-- c are the hops in both a and b, or all hops of both if they have none in common
abbrev pub AreMerged : Hops → Hops → Hops → Type 0
AreMerged a b c = (k : Option ℕ) → wants c k ≡ cond (agree a b) (wants a k && wants b k) (wants a k || wants b k)

-- a block of w free bits needs m operations if it inherits one of these hops, and one more if it inherits any other hop or none
pub record AreBest (w : ℕ) (h : List Bool → Option ℕ) (t : List (List Bool × Option ℕ)) (hops : Hops) (m : ℕ) : Type 0 where
  pub some : (k : Option ℕ) × (wants hops k ≡ true)
  pub needs : (s : Option ℕ) → IsLeastDistance w h t s (m + extra_route (wants hops s))
