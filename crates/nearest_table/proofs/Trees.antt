-- The tables that plans make are nearest.
use Rattle.std.proofs.Common.{◌≡◌, ℕ, suc, ◌+◌, Bool, true, false, cond, List, [], ◌∷◌, length, Option, Some, None, refl, sym, ap, ap₂, ◌∙◌, subst, arith}
use Rattle.std.proofs.lemmas.Bool.{false_from_ne_true}
use Rattle.least_table.specs.BestHops.{Hops, Of, Any, wants, first_best_hop, agree, AreBest}
use Rattle.least_table.specs.HopSets.{is_same_hop, holds, extra_route, first_hop}
use Rattle.least_table.specs.Nearest.{IsLeastDistance, distance}
use Rattle.least_table.specs.Tables.{IsBitTable, half, half_of, hop_inheriting, longest_route, own, passed}
use Rattle.least_table.specs.Wholes.{without_own, with_own}
use Rattle.nearest_table.specs.Blocks.{Covers}
use Rattle.nearest_table.specs.Laws.{PlansLaw}
use Rattle.nearest_table.specs.Plans.{Tree, Stay, Fork, Held, tree_best, IsPlan, new_table}
use Rattle.least_table.proofs.Distances.{below, change, change_same, distance-below, distance-with, own_law}
use Rattle.least_table.proofs.Makes.{Makes, Best-fork, Best-stay, distance-self, first-wanted, fork_made, made_nearest, stay_made}
use Rattle.least_table.proofs.Sets.{one_holds, same_hop-true}
use Rattle.least_table.proofs.Split.{GivesHops-with, half-bare, IsBitTable-bare, IsBitTable-half, own-bare, own-joined}

-- ---- blocks whose routes stay

-- if an address has a route, the inherited hop doesn't count
pub covered : (s k : Option ℕ) (t : List (List Bool × Option ℕ)) (x : List Bool) → (longest_route t x ≡ None → ⊥) → hop_inheriting s t x ≡ hop_inheriting k t x
covered s k t x c = grind (arith, c)

stays_any : (w : ℕ) (h : List Bool → Option ℕ) (t : List (List Bool × Option ℕ)) → IsBitTable w t → (k : Option ℕ) → ((x : List Bool) → length x ≡ w → h x ≡ hop_inheriting k t x) → Covers w t → (s : Option ℕ) → Makes w h s t t 0
stays_any w h t table k same c s = record { gives = record { table = table; same = λ x l. covered s k t x (c x l) ∙ sym (same x l) }; far = distance-self w t table }

-- ---- plans

-- the number of operations of a plan if the block inherits a best hop
abbrev pub count : Tree → ℕ
count (Stay hops) = 0
count (Fork hops l r) = count l + count r + extra_route (agree (tree_best l) (tree_best r))
count (Held k p) = count p + extra_route (wants (tree_best p) k)

pub Best-plan : (w : ℕ) (h : List Bool → Option ℕ) (t : List (List Bool × Option ℕ)) (p : Tree) → IsBitTable w t → IsPlan w h t p → AreBest w h t (tree_best p) (count p)
Best-plan w h t (Stay Any) table plan = record { some = (None, refl); needs = λ s. let m = stays_any w h t table plan.0 plan.1.0 plan.1.1 s in record { reached = (t, m.gives, m.far); least = λ v g. omega arith } }
Best-plan w h t (Stay (Of ks)) table plan = subst (λ l. AreBest w h t (Of l) 0) (sym plan.1.0) (Best-stay w h t table plan.0 plan.1.1 plan.1.2 plan.1.3 plan.1.4)
Best-plan w h t (Fork hops l r) table plan =
    let v = plan.0 in
    let less : IsBitTable (suc v) t = subst (λ i. IsBitTable i t) plan.1 table in
    subst (λ i. AreBest i h t hops (count l + count r + extra_route (agree (tree_best l) (tree_best r)))) (sym plan.1)
    (Best-fork v h t less plan.2 (tree_best l) (tree_best r) hops (count l) (count r) (Best-plan v (half_of false h) (half t false) l (IsBitTable-half v t false less) plan.4) (Best-plan v (half_of true h) (half t true) r (IsBitTable-half v t true less) plan.5) plan.3)
Best-plan w h t (Held k p) table plan =
    let b = Best-plan w h (without_own t) p (IsBitTable-bare w t table) plan.1 in
    record {
      some = (None, refl);
      needs = λ s. subst (IsLeastDistance w h t s) (omega arith) (own_law w h t table k plan.0 s (count p + extra_route (wants (tree_best p) k)) (b.needs k));
    }

-- the first best hop is one of them, and so differs from a hop that isn't
pub first_best : (w : ℕ) (h : List Bool → Option ℕ) (t : List (List Bool × Option ℕ)) (p : Tree) → IsBitTable w t → IsPlan w h t p → wants (tree_best p) (first_best_hop (tree_best p)) ≡ true
first_best w h t p table plan = let k = (Best-plan w h t p table plan).some in first-wanted (tree_best p) k.0 k.1

pub other_hop : (hops : Hops) (k j : Option ℕ) → wants hops k ≡ false → wants hops j ≡ true → is_same_hop k j ≡ false
other_hop hops k j e f = false_from_ne_true (is_same_hop k j) (λ g. let d : wants hops k ≡ true = ap (wants hops) (same_hop-true k j g) ∙ f in cc)

-- the table of a plan has no route of a block that inherits a best hop
pub plain : (w : ℕ) (h : List Bool → Option ℕ) (t : List (List Bool × Option ℕ)) (p : Tree) → IsPlan w h t p → own t ≡ None → (s : Option ℕ) → wants (tree_best p) s ≡ true → own (new_table p t s) ≡ None
plain w h t (Stay hops) plan e s f = rw f e
plain w h t (Fork hops l r) plan e s f = rw f (own-joined (new_table l (half t false) s) (new_table r (half t true) s))
plain w h t (Held k p) plan e s f = let g = plan.0 in cc

module _ (w : ℕ) (h : List Bool → Option ℕ) (t : List (List Bool × Option ℕ)) (k : Option ℕ) (p : Tree) (table : IsBitTable w t) (held : own t ≡ Some k) (plan : IsPlan w h (without_own t) p)
    (inner : (c : Option ℕ) → Makes w h c (without_own t) (new_table p (without_own t) c) (count p + extra_route (wants (tree_best p) c))) where
  nothing : (c : Option ℕ) → wants (tree_best p) c ≡ true → own (new_table p (without_own t) c) ≡ None
  nothing c e = plain w h (without_own t) p plan (own-bare t) c e

  inside : (c : Option ℕ) → wants (tree_best p) c ≡ true → below t (new_table p (without_own t) c) ≡ count p
  inside c e = omega (
    arith,
    distance-below w (without_own t) (new_table p (without_own t) c) (IsBitTable-bare w t table) (inner c).gives.table,
    ap₂ change (own-bare t) (nothing c e),
    ap₂ (λ x y. distance x (half (new_table p (without_own t) c) false) + distance y (half (new_table p (without_own t) c) true)) (half-bare t false) (half-bare t true),
    (inner c).far,
    ap extra_route e,
  )

  -- with this own route, or none, in the place of the one that is held
  in_place : (s : Option ℕ) (o : Option (Option ℕ)) → wants (tree_best p) (passed s o) ≡ true → Makes w h s t (with_own o (new_table p (without_own t) (passed s o))) (change (Some k) o + count p)
  in_place s o e = record {
    gives = GivesHops-with w h s o (new_table p (without_own t) (passed s o)) (nothing (passed s o) e) (inner (passed s o)).gives;
    far = distance-with w t o (new_table p (without_own t) (passed s o)) (nothing (passed s o) e) table (inner (passed s o)).gives.table ∙ omega (arith, ap (λ a. change a o) held, inside (passed s o) e);
  }

  some : wants (tree_best p) (first_best_hop (tree_best p)) ≡ true
  some = first_best w h (without_own t) p (IsBitTable-bare w t table) plan

  held_makes : (s : Option ℕ) → Makes w h s t (new_table (Held k p) t s) (count p + extra_route (wants (tree_best p) k) + 0)
  held_makes s = go (wants (tree_best p) k) (wants (tree_best p) s) refl refl
    where
      go : (u v : Bool) → wants (tree_best p) k ≡ u → wants (tree_best p) s ≡ v
          → Makes w h s t (cond u (([], k) ∷ new_table p (without_own t) k) (cond v (new_table p (without_own t) s) (([], first_best_hop (tree_best p)) ∷ new_table p (without_own t) (first_best_hop (tree_best p))))) (count p + extra_route u + 0)
      go true v e f = subst (Makes w h s t (([], k) ∷ new_table p (without_own t) k)) (omega (arith, change_same (Some k))) (in_place s (Some k) e)
      go false true e f = subst (Makes w h s t (new_table p (without_own t) s)) (omega arith) (in_place s None f)
      go false false e f = subst (Makes w h s t (([], first_best_hop (tree_best p)) ∷ new_table p (without_own t) (first_best_hop (tree_best p)))) (omega (arith, ap extra_route (other_hop (tree_best p) k (first_best_hop (tree_best p)) e some))) (in_place s (Some (first_best_hop (tree_best p))) some)

makes : (w : ℕ) (h : List Bool → Option ℕ) (t : List (List Bool × Option ℕ)) (p : Tree) → IsBitTable w t → IsPlan w h t p → (s : Option ℕ) → Makes w h s t (new_table p t s) (count p + extra_route (wants (tree_best p) s))
makes w h t (Stay Any) table plan s = stays_any w h t table plan.0 plan.1.0 plan.1.1 s
makes w h t (Stay (Of ks)) table plan s =
    subst (λ l. Makes w h s t (cond (holds l s) t (([], first_hop l) ∷ t)) (0 + extra_route (holds l s))) (sym plan.1.0)
    (subst (λ v. Makes w h s t (cond v t (([], plan.0) ∷ t)) (0 + extra_route v)) (sym (one_holds plan.0 s)) (stay_made w h t table plan.0 plan.1.1 plan.1.2 plan.1.3 plan.1.4 s))
makes w h t (Fork hops l r) table plan s =
    let less : IsBitTable (suc plan.0) t = subst (λ i. IsBitTable i t) plan.1 table in
    subst (λ i. Makes i h s t (new_table (Fork hops l r) t s) (count (Fork hops l r) + extra_route (wants hops s))) (sym plan.1)
    (fork_made plan.0 h t less plan.2 (tree_best l) (tree_best r) hops (count l) (count r) plan.3 (Best-plan w h t (Fork hops l r) table plan).some (new_table l (half t false)) (new_table r (half t true))
    (makes plan.0 (half_of false h) (half t false) l (IsBitTable-half plan.0 t false less) plan.4) (makes plan.0 (half_of true h) (half t true) r (IsBitTable-half plan.0 t true less) plan.5) s)
makes w h t (Held k p) table plan s = held_makes w h t k p table plan.0 plan.1 (makes w h (without_own t) p (IsBitTable-bare w t table) plan.1) s

pub plans_law : PlansLaw
plans_law w h s t p table plan = made_nearest w h s t (new_table p t s) (tree_best p) (count p) (Best-plan w h t p table plan) (makes w h t p table plan s)
