-- Tables of routes over bit strings, the hop of an address, and least tables.
use Rattle.std.specs.Prelude.{◌≡◌, ◌≢◌, ℕ, ◌≤◌, Bool, true, false, cond, List, [], ◌∷◌, ◌++◌, length, map, nat_lt, Option, Some, None, ⊤}
use Rattle.ipnet_blocks.specs.BitStrings.{begins}

-- no route of t is at the block b
abbrev pub Absent : List Bool → List (List Bool × Option ℕ) → Type 0
Absent b [] = ⊤
Absent b (r ∷ t) = (r.0 ≢ b) × Absent b t

-- a finite map from blocks of at most w bits to hops; `None` is `drop`
abbrev pub IsBitTable : ℕ → List (List Bool × Option ℕ) → Type 0
IsBitTable w [] = ⊤
IsBitTable w (r ∷ t) = (length r.0 ≤ w) × Absent r.0 t × IsBitTable w t

-- the longer of a route and another, if there is another
abbrev pub longer_route : List Bool × Option ℕ → Option (List Bool × Option ℕ) → Option (List Bool × Option ℕ)
longer_route r None = Some r
longer_route r (Some q) = cond (nat_lt (length r.0) (length q.0)) (Some q) (Some r)

-- the longest route of t whose block contains x
abbrev pub longest_route : List (List Bool × Option ℕ) → List Bool → Option (List Bool × Option ℕ)
longest_route [] x = None
longest_route (r ∷ t) x = cond (begins r.0 x) (longer_route r (longest_route t x)) (longest_route t x)

-- the hop of a match, or s if there is none
abbrev pub matched_hop : Option ℕ → Option (List Bool × Option ℕ) → Option ℕ
matched_hop s None = s
matched_hop s (Some r) = r.1

-- the hop of x if it inherits s
abbrev pub hop_inheriting : Option ℕ → List (List Bool × Option ℕ) → List Bool → Option ℕ
hop_inheriting s t x = matched_hop s (longest_route t x)

-- the hop of x
abbrev pub table_hop : List (List Bool × Option ℕ) → List Bool → Option ℕ
table_hop t x = hop_inheriting None t x

-- t is a table over w bits in which each address has the hop that h gives, if the block inherits s
pub record GivesHops (w : ℕ) (h : List Bool → Option ℕ) (s : Option ℕ) (t : List (List Bool × Option ℕ)) : Type 0 where
  pub table : IsBitTable w t
  pub same : (x : List Bool) → length x ≡ w → hop_inheriting s t x ≡ h x

-- t is a table with the hops h, and no table with these hops has fewer routes
pub record IsLeastTable (w : ℕ) (h : List Bool → Option ℕ) (t : List (List Bool × Option ℕ)) : Type 0 where
  pub gives : GivesHops w h None t
  pub fewest : (u : List (List Bool × Option ℕ)) → GivesHops w h None u → length t ≤ length u

-- the hops of the half of a block that has the bit b first
abbrev pub half_of : Bool → (List Bool → Option ℕ) → List Bool → Option ℕ
half_of b h x = h (b ∷ x)

-- the routes inside the half that has the bit b first, without this bit
abbrev pub half : List (List Bool × Option ℕ) → Bool → List (List Bool × Option ℕ)
half [] b = []
half (([], k) ∷ t) b = half t b
half ((false ∷ c, k) ∷ t) false = (c, k) ∷ half t false
half ((false ∷ c, k) ∷ t) true = half t true
half ((true ∷ c, k) ∷ t) false = half t false
half ((true ∷ c, k) ∷ t) true = (c, k) ∷ half t true

-- the hop of the route of the whole block, if it has a route
abbrev pub own : List (List Bool × Option ℕ) → Option (Option ℕ)
own [] = None
own (([], k) ∷ t) = Some k
own ((b ∷ c, k) ∷ t) = own t

-- the hops of the smaller block on this path
abbrev pub inner_of : List Bool → (List Bool → Option ℕ) → List Bool → Option ℕ
inner_of ds h x = h (ds ++ x)

-- the routes of a half, as routes of the block
abbrev pub inside : {K : Type 0} → Bool → List (List Bool × K) → List (List Bool × K)
inside b t = map (λ r. (b ∷ r.0, r.1)) t

-- the routes of a block, as routes of the whole
abbrev pub within : {K : Type 0} → List Bool → List (List Bool × K) → List (List Bool × K)
within b t = map (λ r. (b ++ r.0, r.1)) t

-- what the halves inherit: the hop of the block's own route, or s if it has none
abbrev pub passed : Option ℕ → Option (Option ℕ) → Option ℕ
passed s None = s
passed s (Some k) = k
