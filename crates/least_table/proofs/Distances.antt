-- The fewest operations inside a block, from those inside its halves.
use Rattle.std.proofs.Common.{◌≡◌, ◌≢◌, ℕ, suc, ◌+◌, ◌≤◌, Bool, true, false, cond, not, ◌&&◌, List, [], ◌∷◌, length, Option, Some, None, is_some, refl, sym, ap, ◌∙◌, arith, inl, inr, ◌⊎◌, add-one, ⊎_elim}
use Rattle.ipnet_blocks.specs.Halves.{IsLesser}
use Rattle.least_table.specs.HopSets.{is_same_hop, extra_route}
use Rattle.least_table.specs.Laws.{HostLaw, HalvesLaw, OwnLaw, TwoValuesLaw}
use Rattle.least_table.specs.Nearest.{IsLeastDistance, distance, has, missing_routes, stores, surplus_routes}
use Rattle.least_table.specs.Tables.{IsBitTable, hop_inheriting, GivesHops, half_of, half, own, passed}
use Rattle.least_table.specs.Wholes.{whole, with_own, without_own}
use Rattle.least_table.proofs.Sets.{same_hop-refl, same_hop-true}
use Rattle.least_table.proofs.Split.{GivesHops-any, GivesHops-bare, GivesHops-half, GivesHops-whole, GivesHops-with, IsBitTable-bare, IsBitTable-whole, IsBitTable-with, half-bare, half-whole, half-with, hop-empty, own-absent, own-bare, own-whole, own-with}

pub has-half : (t : List (List Bool × Option ℕ)) (b : Bool) (c : List Bool) (k : Option ℕ) → has t (b ∷ c, k) ≡ has (half t b) (c, k)
has-half [] b c k = refl
has-half ((false ∷ d, j) ∷ t) false c k = cc (has-half t false c k)
has-half ((true ∷ d, j) ∷ t) true c k = cc (has-half t true c k)
has-half (_ ∷ t) b c k = has-half t b c k

pub stores-half : (t : List (List Bool × Option ℕ)) (b : Bool) (c : List Bool) → stores t (b ∷ c) ≡ stores (half t b) c
stores-half [] b c = refl
stores-half ((false ∷ d, j) ∷ t) false c = cc (stores-half t false c)
stores-half ((true ∷ d, j) ∷ t) true c = cc (stores-half t true c)
stores-half (_ ∷ t) b c = stores-half t b c

-- whether the route of the whole block has this hop
abbrev pub is_own : Option (Option ℕ) → Option ℕ → Bool
is_own None k = false
is_own (Some j) k = is_same_hop j k

pub has-own : (w : ℕ) (t : List (List Bool × Option ℕ)) (k : Option ℕ) → IsBitTable w t → has t ([], k) ≡ is_own (own t) k
has-own w [] k h = refl
has-own w (([], j) ∷ t) k h = grind (arith, has-own w t k h.2, own-absent t h.1)
has-own w (_ ∷ t) k h = has-own w t k h.2

pub stores-own : (t : List (List Bool × Option ℕ)) → stores t [] ≡ is_some (own t)
stores-own [] = refl
stores-own (([], j) ∷ t) = refl
stores-own (_ ∷ t) = stores-own t

-- the operations on the whole block, by its routes before and after
abbrev pub change : Option (Option ℕ) → Option (Option ℕ) → ℕ
change None None = 0
change None (Some k) = 1
change (Some j) None = 1
change (Some j) (Some k) = extra_route (is_same_hop j k)

pub change_same : (a : Option (Option ℕ)) → change a a ≡ 0
change_same a = grind (arith, same_hop-refl)

pub change_one : (a b : Option (Option ℕ)) → change a b ≤ 1
change_one a b = grind arith

pub change_cases : (a b : Option (Option ℕ)) → (a ≡ b) ⊎ (change a b ≡ 1)
change_cases a b = grind (arith, same_hop-true)

-- the distance is the sum over the blocks
pub distance-halves : (v w : ℕ) (t u : List (List Bool × Option ℕ)) → IsBitTable v t → IsBitTable w u → distance t u ≡ change (own t) (own u) + distance (half t false) (half u false) + distance (half t true) (half u true)
distance-halves v w t u h k = grind (arith, missing u k, surplus t h)
  where
    own_missing : Option (Option ℕ) → ℕ
    own_missing None = 0
    own_missing (Some k) = extra_route (is_own (own t) k)

    missing : (u : List (List Bool × Option ℕ)) → IsBitTable w u → length (missing_routes t u) ≡ own_missing (own u) + length (missing_routes (half t false) (half u false)) + length (missing_routes (half t true) (half u true))
    missing [] k = refl
    missing (([], j) ∷ u) k = grind (arith, missing u k.2, own-absent u k.1, has-own v t j h)
    missing ((false ∷ c, j) ∷ u) k = grind (arith, has-half t false c j, missing u k.2)
    missing ((true ∷ c, j) ∷ u) k = grind (arith, has-half t true c j, missing u k.2)

    surplus : (t : List (List Bool × Option ℕ)) → IsBitTable v t → length (surplus_routes t u) ≡ cond (is_some (own t) && not (is_some (own u))) 1 0 + length (surplus_routes (half t false) (half u false)) + length (surplus_routes (half t true) (half u true))
    surplus [] h = refl
    surplus (([], j) ∷ t) h = grind (arith, surplus t h.2, own-absent t h.1, stores-own u)
    surplus ((false ∷ c, j) ∷ t) h = grind (arith, stores-half u false c, surplus t h.2)
    surplus ((true ∷ c, j) ∷ t) h = grind (arith, stores-half u true c, surplus t h.2)

pub distance-whole : (v w : ℕ) (t : List (List Bool × Option ℕ)) (o : Option (Option ℕ)) (l r : List (List Bool × Option ℕ)) → IsBitTable v t → IsBitTable w l → IsBitTable w r
    → distance t (whole o l r) ≡ change (own t) o + distance (half t false) l + distance (half t true) r
distance-whole v w t o l r h a b = distance-halves v (suc w) t (whole o l r) h (IsBitTable-whole w o l r a b) ∙ rw (own-whole o l r, half-whole o l r false, half-whole o l r true) refl

-- the operations inside the halves
abbrev pub below : List (List Bool × Option ℕ) → List (List Bool × Option ℕ) → ℕ
below t u = distance (half t false) (half u false) + distance (half t true) (half u true)

pub distance-below : (w : ℕ) (t u : List (List Bool × Option ℕ)) → IsBitTable w t → IsBitTable w u → distance t u ≡ change (own t) (own u) + below t u
distance-below w t u h k = omega (arith, distance-halves w w t u h k)

pub distance-with : (w : ℕ) (t : List (List Bool × Option ℕ)) (o : Option (Option ℕ)) (u : List (List Bool × Option ℕ)) → own u ≡ None → IsBitTable w t → IsBitTable w u → distance t (with_own o u) ≡ change (own t) o + below t u
distance-with w t o u e h k = distance-below w t (with_own o u) h (IsBitTable-with w o u e k) ∙ rw (own-with o u e, half-with o u false, half-with o u true) refl

-- ---- blocks of one address

pub host_distance : (t u : List (List Bool × Option ℕ)) → IsBitTable 0 t → IsBitTable 0 u → distance t u ≡ change (own t) (own u)
host_distance t u h k = grind (arith, distance-halves 0 0 t u h k, no_half t h, no_half u k)
  where
    no_half : (t : List (List Bool × Option ℕ)) → IsBitTable 0 t → (half t false ≡ []) × (half t true ≡ [])
    no_half [] h = (refl, refl)
    no_half (([], k) ∷ t) h = no_half t h.2
    no_half ((c ∷ d, k) ∷ t) h = absurd (omega (arith, h.0))

host_gives : (h : List Bool → Option ℕ) (s : Option ℕ) (u : List (List Bool × Option ℕ)) → IsBitTable 0 u → h [] ≡ passed s (own u) → GivesHops 0 h s u
host_gives h s u table e = record { table = table; same = at }
  where
    at : (x : List Bool) → length x ≡ 0 → hop_inheriting s u x ≡ h x
    at [] _ = hop-empty 0 s u table ∙ sym e
    at (b ∷ x) f = absurd (omega (arith, f))

pub host_law : HostLaw
host_law h t table s n = (to, from)
  where
    no_less : (u : List (List Bool × Option ℕ)) → GivesHops 0 h s u → (h [] ≡ passed s (own t)) ⊎ (1 ≤ distance t u)
    no_less u g = grind (arith, g.same [] refl, hop-empty 0 s u g.table, change_cases (own t) (own u), host_distance t u table g.table)

    at_zero : h [] ≡ passed s (own t) → (u : List (List Bool × Option ℕ)) × GivesHops 0 h s u × (distance t u ≡ 0)
    at_zero e = (t, host_gives h s t table e, host_distance t t table table ∙ change_same (own t))

    at_one : (u : List (List Bool × Option ℕ)) × GivesHops 0 h s u × (distance t u ≤ 1)
    at_one = let u : IsBitTable 0 (([], h []) ∷ []) = (omega arith, tt, tt) in (([], h []) ∷ [], host_gives h s (([], h []) ∷ []) u refl, omega (arith, host_distance t (([], h []) ∷ []) table u, change_one (own t) (Some (h []))))

    to : IsLeastDistance 0 h t s n → ((h [] ≡ passed s (own t)) × (n ≡ 0)) ⊎ ((h [] ≢ passed s (own t)) × (n ≡ 1))
    to l = ⊎_elim (λ e. let u = at_zero e in inl (e, omega (arith, l.least u.0 u.1, u.2)))
        (λ m. inr ((λ p. let u = at_zero p in absurd (omega (arith, m, l.reached.2, l.least u.0 u.1, u.2))), (let u = at_one in omega (arith, m, l.reached.2, l.least u.0 u.1, u.2))))
        (no_less l.reached.0 l.reached.1)

    from : ((h [] ≡ passed s (own t)) × (n ≡ 0)) ⊎ ((h [] ≢ passed s (own t)) × (n ≡ 1)) → IsLeastDistance 0 h t s n
    from (inl p) = record { reached = (let u = at_zero p.0 in (u.0, u.1, u.2 ∙ sym p.1)); least = λ u g. omega (arith, p.1) }
    from (inr p) = let low : (u : List (List Bool × Option ℕ)) → GivesHops 0 h s u → n ≤ distance t u = λ u g. ⊎_elim (λ e. absurd (p.0 e)) (λ m. omega (arith, m, p.1)) (no_less u g) in
        record { reached = (let u = at_one in (u.0, u.1, omega (arith, u.2, p.1, low u.0 u.1))); least = low }

-- ---- any other blocks

module _ (w : ℕ) (h : List Bool → Option ℕ) (t : List (List Bool × Option ℕ)) (table : IsBitTable (suc w) t) (f g : Option ℕ → ℕ)
    (below : (k : Option ℕ) → IsLeastDistance w (half_of false h) (half t false) k (f k)) (above : (k : Option ℕ) → IsLeastDistance w (half_of true h) (half t true) k (g k)) where
  -- what any table needs, by what its halves need
  needs : (s : Option ℕ) (u : List (List Bool × Option ℕ)) → GivesHops (suc w) h s u → (f (passed s (own t)) + g (passed s (own t)) ≤ distance t u) ⊎ ((k : Option ℕ) × (f k + g k + 1 ≤ distance t u))
  needs s u gives = ⊎_elim (λ e. inl (rw e (omega (arith, all, change_same (own u))))) (λ e. inr (passed s (own u), omega (arith, all, e))) (change_cases (own t) (own u))
    where
      all : f (passed s (own u)) + g (passed s (own u)) + change (own t) (own u) ≤ distance t u
      all = omega (arith, distance-halves (suc w) (suc w) t u table gives.table, (below (passed s (own u))).least (half u false) (GivesHops-half w h s u gives false), (above (passed s (own u))).least (half u true) (GivesHops-half w h s u gives true))

  -- a table of the whole with this own route, of the halves' tables under what that hands down
  with : (s : Option ℕ) (o : Option (Option ℕ)) → (u : List (List Bool × Option ℕ)) × GivesHops (suc w) h s u × (distance t u ≡ change (own t) o + f (passed s o) + g (passed s o))
  with s o =
      let l = (below (passed s o)).reached in
      let r = (above (passed s o)).reached in
      (whole o l.0 r.0, GivesHops-whole w h s o l.0 r.0 l.1 r.1, omega (arith, distance-whole (suc w) w t o l.0 r.0 table l.1.table r.1.table, l.2, r.2))

  pub from_lesser : (s : Option ℕ) (n : ℕ) → IsLesser f g (passed s (own t)) n → IsLeastDistance (suc w) h t s n
  from_lesser s n l = record {
    reached = ⊎_elim (λ e. let u = with s (own t) in (u.0, u.1, omega (arith, u.2, e, change_same (own t)))) (λ p. let u = with s (Some p.0) in (u.0, u.1, omega (arith, u.2, p.1, low u.0 u.1, change_one (own t) (Some p.0)))) l.reached;
    least = low;
  }
    where
      low : (u : List (List Bool × Option ℕ)) → GivesHops (suc w) h s u → n ≤ distance t u
      low u gives = ⊎_elim (λ e. omega (arith, e, l.under_s)) (λ p. omega (arith, p.1, l.under_any p.0)) (needs s u gives)

  to_lesser : (s : Option ℕ) (n : ℕ) → IsLeastDistance (suc w) h t s n → IsLesser f g (passed s (own t)) n
  to_lesser s n l = record {
    reached = ⊎_elim (λ e. inl (omega (arith, e, l.reached.2, small))) (λ p. inr (p.0, omega (arith, p.1, l.reached.2, any p.0))) (needs s l.reached.0 l.reached.1);
    under_s = small;
    under_any = any;
  }
    where
      small : n ≤ f (passed s (own t)) + g (passed s (own t))
      small = let u = with s (own t) in omega (arith, l.least u.0 u.1, u.2, change_same (own t))

      any : (k : Option ℕ) → n ≤ f k + g k + 1
      any k = let u = with s (Some k) in omega (arith, l.least u.0 u.1, u.2, change_one (own t) (Some k))

pub halves_law : HalvesLaw
halves_law w h t table f g below above s n = rw add-one (to_lesser w h t (rw (← add-one) table) f g below above s n, from_lesser w h t (rw (← add-one) table) f g below above s n)

-- ---- what the inherited hop counts

-- a table for one inherited hop becomes one for another by at most one operation more
pub turned : (w : ℕ) (h : List Bool → Option ℕ) (t : List (List Bool × Option ℕ)) → IsBitTable w t → (s k : Option ℕ) (v : List (List Bool × Option ℕ)) → GivesHops w h k v → (u : List (List Bool × Option ℕ)) × GivesHops w h s u × (distance t u ≤ distance t v + 1)
turned w h t table s k v g = go (own v) refl
  where
    go : (o : Option (Option ℕ)) → own v ≡ o → (u : List (List Bool × Option ℕ)) × GivesHops w h s u × (distance t u ≤ distance t v + 1)
    go (Some j) e = (v, GivesHops-any w h s k j v e g, omega arith)
    go None e = (([], k) ∷ v, GivesHops-with w h s (Some k) v e g, omega (arith, distance-with w t (Some k) v e table g.table, change_one (own t) (Some k), distance-below w t v table g.table))

pub two_values_law : TwoValuesLaw
two_values_law w h t table s k m n a b = let u = turned w h t table s k b.reached.0 b.reached.1 in omega (arith, a.least u.0 u.1, u.2, b.reached.2)

pub own_law : OwnLaw
own_law w h t table k held s n inner = record { reached = (let u = reached in (u.0, u.1, omega (arith, u.2, low u.0 u.1))); least = low }
  where
    -- with the same own route, or another, or none
    from_bare : (u : List (List Bool × Option ℕ)) → IsBitTable w u → distance (without_own t) u ≡ change None (own u) + below t u
    from_bare u g = distance-below w (without_own t) u (IsBitTable-bare w t table) g ∙ rw (own-bare t, half-bare t false, half-bare t true) refl

    from_held : (u : List (List Bool × Option ℕ)) → IsBitTable w u → distance t u ≡ change (Some k) (own u) + below t u
    from_held u g = distance-below w t u table g ∙ rw held refl

    low : (v : List (List Bool × Option ℕ)) → GivesHops w h s v → n ≤ distance t v
    low v g = ⊎_elim (λ e. omega (arith, same e, from_held v g.table)) (λ e. omega (arith, at (passed s (own v)) refl, from_held v g.table, e)) (change_cases (Some k) (own v))
      where
        v' : List (List Bool × Option ℕ)
        v' = without_own v

        g' : GivesHops w h (passed s (own v)) v'
        g' = GivesHops-bare w h s v g

        inside : below t v' ≡ below t v
        inside = rw (half-bare v false, half-bare v true) refl

        -- what is left of v under its own hop, as a table under k
        at : (o : Option ℕ) → passed s (own v) ≡ o → n ≤ 1 + below t v
        at o e = let u : GivesHops w h k (([], o) ∷ v') = GivesHops-with w h k (Some o) v' (own-bare v) (rw e at g') in omega (arith, inner.least (([], o) ∷ v') u, from_bare (([], o) ∷ v') u.table, inside)

        same : Some k ≡ own v → n ≤ below t v
        same e = omega (arith, inner.least v' (rw (← e) at g'), from_bare v' g'.table, ap (change None) (own-bare v), inside)

    reached : (u : List (List Bool × Option ℕ)) × GivesHops w h s u × (distance t u ≤ n)
    reached = go (own u) refl
      where
        u : List (List Bool × Option ℕ)
        u = inner.reached.0

        go : (o : Option (Option ℕ)) → own u ≡ o → (u : List (List Bool × Option ℕ)) × GivesHops w h s u × (distance t u ≤ n)
        go None e = (([], k) ∷ u, GivesHops-with w h s (Some k) u e inner.reached.1, omega (arith, distance-with w t (Some k) u e table inner.reached.1.table, ap (λ o. change o (Some k)) held, change_same (Some k), from_bare u inner.reached.1.table, inner.reached.2))
        go (Some j) e = (u, GivesHops-any w h s k j u e inner.reached.1, omega (arith, from_held u inner.reached.1.table, change_one (Some k) (own u), from_bare u inner.reached.1.table, ap (change None) e, inner.reached.2))
