-- Plans of blocks: how a block is cut, its best inherited hops, and the edits and the new routes that follow.
use Rattle.std.specs.Prelude.{◌≡◌, ℕ, suc, Bool, true, false, cond, List, [], ◌∷◌, ◌++◌, length, Option, Some, None}
use Rattle.least_table.specs.Tables.{half, half_of, hop_inheriting, longest_route, own, inside}
use Rattle.least_table.specs.Wholes.{without_own}
use Rattle.nearest_table.specs.Blocks.{Covers}
use Rattle.least_table.specs.BestHops.{Hops, Any, Of, AreMerged, first_best_hop, wants}

-- A block whose installed routes stay, and its best inherited hops; a block without a route that is cut into halves, and its best
-- inherited hops; and a block with a route of this hop, and its plan without this route.
pub data Tree : Type 0 where
  Stay : Hops → Tree
  Fork : Hops → Tree → Tree → Tree
  Held : Option ℕ → Tree → Tree

-- the best inherited hops of the block
abbrev pub tree_best : Tree → Hops
tree_best (Stay hops) = hops
tree_best (Fork hops l r) = hops
tree_best (Held k p) = Any

-- The installed routes t give each address its new hop if the block inherits k. If each address has a route, they do whatever the block
-- inherits; else k is the only such hop.
abbrev pub IsStay : ℕ → (List Bool → Option ℕ) → List (List Bool × Option ℕ) → Hops → Option ℕ → Type 0
IsStay w h t Any k = ((x : List Bool) → length x ≡ w → h x ≡ hop_inheriting k t x) × Covers w t
IsStay w h t (Of ks) k = (ks ≡ k ∷ []) × ((x : List Bool) → length x ≡ w → h x ≡ hop_inheriting k t x) × (x : List Bool) × (length x ≡ w) × (longest_route t x ≡ None)

-- the tree is a plan of a block of w free bits with the installed routes t, whose addresses get the hops h
abbrev pub IsPlan : ℕ → (List Bool → Option ℕ) → List (List Bool × Option ℕ) → Tree → Type 0
IsPlan w h t (Stay hops) = (k : Option ℕ) × IsStay w h t hops k
IsPlan w h t (Fork hops l r) =
    (v : ℕ) × (w ≡ suc v) × (own t ≡ None) × AreMerged (tree_best l) (tree_best r) hops × IsPlan v (half_of false h) (half t false) l × IsPlan v (half_of true h) (half t true) r
IsPlan w h t (Held k p) = (own t ≡ Some k) × IsPlan w h (without_own t) p

-- the table that a plan makes of the installed routes t if the block inherits s
abbrev pub new_table : Tree → List (List Bool × Option ℕ) → Option ℕ → List (List Bool × Option ℕ)
new_table (Stay hops) t s = cond (wants hops s) t (([], first_best_hop hops) ∷ t)
new_table (Fork hops l r) t s =
    cond (wants hops s)
    (inside false (new_table l (half t false) s) ++ inside true (new_table r (half t true) s))
    (([], first_best_hop hops) ∷ inside false (new_table l (half t false) (first_best_hop hops)) ++ inside true (new_table r (half t true) (first_best_hop hops)))
new_table (Held k p) t s =
    cond (wants (tree_best p) k)
    (([], k) ∷ new_table p (without_own t) k)
    (cond (wants (tree_best p) s) (new_table p (without_own t) s) (([], first_best_hop (tree_best p)) ∷ new_table p (without_own t) (first_best_hop (tree_best p))))

-- its edits, the block's own first
abbrev pub edits_of : Tree → Option ℕ → List (List Bool × Option (Option ℕ))
edits_of (Stay hops) s = cond (wants hops s) [] (([], Some (first_best_hop hops)) ∷ [])
edits_of (Fork hops l r) s =
    cond (wants hops s)
    (inside false (edits_of l s) ++ inside true (edits_of r s))
    (([], Some (first_best_hop hops)) ∷ inside false (edits_of l (first_best_hop hops)) ++ inside true (edits_of r (first_best_hop hops)))
edits_of (Held k p) s =
    cond (wants (tree_best p) k)
    (edits_of p k)
    (cond (wants (tree_best p) s) (([], None) ∷ edits_of p s) (([], Some (first_best_hop (tree_best p))) ∷ edits_of p (first_best_hop (tree_best p))))
