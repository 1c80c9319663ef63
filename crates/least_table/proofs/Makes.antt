-- Tables that give a block its hops, by the hop that it inherits, and how far they are from the installed routes.
use Rattle.std.proofs.Common.{◌≡◌, ℕ, zero, suc, ◌+◌, ◌≤◌, Bool, true, false, cond, List, [], ◌∷◌, length, Option, Some, None, refl, sym, ◌∙◌, arith, inl, inr, ⊎_elim}
use Rattle.std.proofs.lemmas.Bool.{cases_Bool}
use Rattle.ipnet_blocks.specs.Halves.{IsLesser}
use Rattle.least_table.specs.BestHops.{Hops, Any, Of, wants, first_best_hop, agree, AreMerged, AreBest}
use Rattle.least_table.specs.HopSets.{is_same_hop, extra_route}
use Rattle.least_table.specs.Laws.{EmptyLaw}
use Rattle.least_table.specs.Nearest.{IsNearestTable, distance}
use Rattle.least_table.specs.Tables.{IsBitTable, GivesHops, half, half_of, hop_inheriting, longest_route, own, passed}
use Rattle.least_table.specs.Wholes.{with_own}
use Rattle.least_table.proofs.Distances.{change, change_same, change_cases, distance-below, distance-halves, distance-whole, distance-with, from_lesser, host_distance}
use Rattle.least_table.proofs.Sets.{meets-true, meets-false, one_holds, same_hop-refl, same_hop-true}
use Rattle.least_table.proofs.Split.{GivesHops-whole, GivesHops-with, IsBitTable-half, hop-empty, hop-half, joined, own_covers}

-- ---- best hops of halves

-- the two have a hop in common
agree-true : (a b : Hops) → (i : Option ℕ) → wants a i ≡ true → (j : Option ℕ) → wants b j ≡ true → agree a b ≡ true → (k : Option ℕ) × (wants a k ≡ true) × (wants b k ≡ true)
agree-true (Of as') (Of bs) i d j e f = meets-true as' bs f
agree-true Any b i d j e f = (j, refl, e)
agree-true _ Any i d j e f = (i, d, refl)

agree-false : (a b : Hops) → agree a b ≡ false → (k : Option ℕ) → wants a k ≡ true → wants b k ≡ true → ⊥
agree-false a b e k f g = grind (arith, meets-false)

pub first-wanted : (a : Hops) (k : Option ℕ) → wants a k ≡ true → wants a (first_best_hop a) ≡ true
first-wanted a k e = grind (arith, same_hop-refl)

-- both halves need as much as the whole if they inherit one of its best hops, and at least one more if they inherit any other or none
extra_routes : (a b c : Hops) → AreMerged a b c → (k : Option ℕ) → wants c k ≡ true → extra_route (wants a k) + extra_route (wants b k) ≡ extra_route (agree a b)
extra_routes a b c merged k e = grind (arith, merged k, agree-false a b)

more : (a b c : Hops) → AreMerged a b c → (k : Option ℕ) → wants c k ≡ false → extra_route (agree a b) + 1 ≤ extra_route (wants a k) + extra_route (wants b k)
more a b c merged k e = grind (arith, merged k)

module _ (w : ℕ) (h : List Bool → Option ℕ) (t : List (List Bool × Option ℕ)) (table : IsBitTable (suc w) t) (none : own t ≡ None) (a b c : Hops) (m n : ℕ)
    (low : AreBest w (half_of false h) (half t false) a m) (high : AreBest w (half_of true h) (half t true) b n) (merged : AreMerged a b c) where
  pub Best-fork : AreBest (suc w) h t c (m + n + extra_route (agree a b))
  Best-fork = record { some = some; needs = λ s. from_lesser w h t table f g low.needs high.needs s (m + n + extra_route (agree a b) + extra_route (wants c s)) (rw none (lesser s)) }
    where
      f : Option ℕ → ℕ
      f k = m + extra_route (wants a k)

      g : Option ℕ → ℕ
      g k = n + extra_route (wants b k)

      some : (k : Option ℕ) × (wants c k ≡ true)
      some = ⊎_elim (λ e. let k = agree-true a b low.some.0 low.some.1 high.some.0 high.some.1 e in (k.0, grind (arith, merged k.0, e, k.1, k.2))) (λ e. (low.some.0, grind (arith, merged low.some.0, e, low.some.1))) (cases_Bool (agree a b))

      any : (k : Option ℕ) → m + n + extra_route (agree a b) ≤ f k + g k
      any k = grind (arith, extra_routes a b c merged k, more a b c merged k)

      lesser : (s : Option ℕ) → IsLesser f g s (m + n + extra_route (agree a b) + extra_route (wants c s))
      lesser s = record {
        reached = ⊎_elim (λ e. inl (grind (arith, extra_routes a b c merged s e))) (λ e. inr (some.0, grind (arith, extra_routes a b c merged some.0 some.1))) (cases_Bool (wants c s));
        under_s = grind (arith, any s, more a b c merged s);
        under_any = λ k. grind (arith, any k);
      }

-- ---- tables at no distance

-- a table is at no distance from itself
pub distance-self : (w : ℕ) (t : List (List Bool × Option ℕ)) → IsBitTable w t → distance t t ≡ 0
distance-self zero t h = host_distance t t h h ∙ change_same (own t)
distance-self (suc w) t h = omega (arith, distance-halves (suc w) (suc w) t t h h, change_same (own t), distance-self w (half t false) (IsBitTable-half w t false h), distance-self w (half t true) (IsBitTable-half w t true h))

-- tables at no distance have the same hops
distance-zero : (w : ℕ) (t u : List (List Bool × Option ℕ)) → IsBitTable w t → IsBitTable w u → distance t u ≡ 0 → (s : Option ℕ) (x : List Bool) → length x ≡ w → hop_inheriting s t x ≡ hop_inheriting s u x
distance-zero w t u h k e s [] l = grind (arith, hop-empty w s t h, hop-empty w s u k, change_cases (own t) (own u), distance-halves w w t u h k)
distance-zero zero t u h k e s (b ∷ x) l = absurd (omega (arith, l))
distance-zero (suc w) t u h k e s (b ∷ x) l =
    let d = distance-halves (suc w) (suc w) t u h k in
    let at : (b : Bool) → distance (half t b) (half u b) ≡ 0 = elim [ true ↦ omega (arith, d, e) | false ↦ omega (arith, d, e) ] in
    let owns : own t ≡ own u = grind (arith, d, e, change_cases (own t) (own u)) in
    let same = distance-zero w (half t b) (half u b) (IsBitTable-half w t b h) (IsBitTable-half w u b k) (at b) (passed s (own u)) x (omega (arith, l)) in
    hop-half s t b x ∙ rw owns same ∙ sym (hop-half s u b x)

-- u gives the hops if the block inherits s, and is n operations away
pub record Makes (w : ℕ) (h : List Bool → Option ℕ) (s : Option ℕ) (t u : List (List Bool × Option ℕ)) (n : ℕ) : Type 0 where
  pub gives : GivesHops w h s u
  pub far : distance t u ≡ n

-- such a table is a nearest one if the block needs as many
pub made_nearest : (w : ℕ) (h : List Bool → Option ℕ) (s : Option ℕ) (t u : List (List Bool × Option ℕ)) (hops : Hops) (m : ℕ) → AreBest w h t hops m → Makes w h s t u (m + extra_route (wants hops s)) → IsNearestTable w h s t u
made_nearest w h s t u hops m best made = record { gives = made.gives; nearest = λ v g. omega (arith, made.far, (best.needs s).least v g) }

-- ---- a block with an address without a route, whose routes stay if it inherits k

module _ (w : ℕ) (h : List Bool → Option ℕ) (t : List (List Bool × Option ℕ)) (table : IsBitTable w t) (k : Option ℕ) (same : (x : List Bool) → length x ≡ w → h x ≡ hop_inheriting k t x)
    (x : List Bool) (long : length x ≡ w) (free : longest_route t x ≡ None) where
  pub stay_made : (s : Option ℕ) → Makes w h s t (cond (is_same_hop s k) t (([], k) ∷ t)) (0 + extra_route (is_same_hop s k))
  stay_made s = go (is_same_hop s k) refl
    where
      stays : GivesHops w h k t
      stays = record { table = table; same = λ x l. sym (same x l) }

      none : own t ≡ None
      none = own_covers w t x table free

      go : (v : Bool) → is_same_hop s k ≡ v → Makes w h s t (cond v t (([], k) ∷ t)) (0 + extra_route v)
      go true e = record { gives = rw (same_hop-true s k e) stays; far = distance-self w t table }
      go false e = record { gives = GivesHops-with w h s (Some k) t none stays; far = grind (arith, distance-with w t (Some k) t none table table, none, distance-below w t t table table, distance-self w t table) }

  -- if it inherits another hop, each table with these hops is at a distance
  apart : (s : Option ℕ) (v : List (List Bool × Option ℕ)) → GivesHops w h s v → 0 + extra_route (is_same_hop s k) ≤ distance t v
  apart s v g = grind (arith, hop, distance-zero w t v table g.table, g.same x long, same x long, free, same_hop-refl k)
    where
      hop : distance t v ≡ 0 → s ≡ k
      hop f = let e = distance-zero w t v table g.table f s x long in grind (arith, free, g.same x long, same x long)

  pub Best-stay : AreBest w h t (Of (k ∷ [])) 0
  Best-stay = record { some = (k, grind (arith, same_hop-refl k)); needs = λ s. rw (one_holds k s) (record { reached = (cond (is_same_hop s k) t (([], k) ∷ t), (stay_made s).gives, (stay_made s).far); least = apart s }) }

-- ---- a block without a route, by tables of its halves

module _ (w : ℕ) (h : List Bool → Option ℕ) (t : List (List Bool × Option ℕ)) (table : IsBitTable (suc w) t) (none : own t ≡ None) (a b c : Hops) (m n : ℕ) (merged : AreMerged a b c) (some : (k : Option ℕ) × (wants c k ≡ true))
    (l r : Option ℕ → List (List Bool × Option ℕ)) (low : (k : Option ℕ) → Makes w (half_of false h) k (half t false) (l k) (m + extra_route (wants a k))) (high : (k : Option ℕ) → Makes w (half_of true h) k (half t true) (r k) (n + extra_route (wants b k))) where
  pub fork_made : (s : Option ℕ) → Makes (suc w) h s t (cond (wants c s) (joined (l s) (r s)) (([], first_best_hop c) ∷ joined (l (first_best_hop c)) (r (first_best_hop c)))) (m + n + extra_route (agree a b) + extra_route (wants c s))
  fork_made s = go (wants c s) refl
    where
      -- both halves inherit a best hop
      both : (o : Option (Option ℕ)) → wants c (passed s o) ≡ true → Makes (suc w) h s t (with_own o (joined (l (passed s o)) (r (passed s o)))) (m + n + extra_route (agree a b) + change None o)
      both o e = let low = low (passed s o) in let high = high (passed s o) in record {
        gives = GivesHops-whole w h s o (l (passed s o)) (r (passed s o)) low.gives high.gives;
        far = distance-whole (suc w) w t o (l (passed s o)) (r (passed s o)) table low.gives.table high.gives.table ∙ rw none (omega (arith, low.far, high.far, extra_routes a b c merged (passed s o) e));
      }

      go : (v : Bool) → wants c s ≡ v → Makes (suc w) h s t (cond v (joined (l s) (r s)) (([], first_best_hop c) ∷ joined (l (first_best_hop c)) (r (first_best_hop c)))) (m + n + extra_route (agree a b) + extra_route v)
      go true e = both None e
      go false e = both (Some (first_best_hop c)) (first-wanted c some.0 some.1)

-- ---- the empty table

pub empty_law : EmptyLaw
empty_law w h u = (
  distance-empty u,
  (
    (λ l. record { gives = l.gives; nearest = λ v g. omega (arith, l.fewest v g, distance-empty u, distance-empty v) }),
    (λ n. record { gives = n.gives; fewest = λ v g. omega (arith, n.nearest v g, distance-empty u, distance-empty v) }),
  ),
)
  where
    distance-empty : (u : List (List Bool × Option ℕ)) → distance [] u ≡ length u
    distance-empty [] = refl
    distance-empty (r ∷ u) = omega (arith, distance-empty u)
