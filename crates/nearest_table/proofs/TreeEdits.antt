-- The edits of plans are those between the installed table and the new one.
use Rattle.std.proofs.Common.{◌≡◌, ℕ, suc, Bool, true, false, cond, not, List, [], ◌∷◌, ◌++◌, map, is_some, Option, Some, None, refl, sym, ap, ap₂, ◌∙◌, subst, arith}
use Rattle.std.proofs.lemmas.List.{nil_from_length}
use Rattle.std.proofs.lemmas.List.Elements.{filter-append}
use Rattle.nearest_table.specs.Edits.{AreEdits, blocks, installed_in, removed_in}
use Rattle.least_table.specs.Orders.{ComesBeforeAll, IsInOrder}
use Rattle.least_table.specs.HopSets.{is_same_hop, holds, first_hop}
use Rattle.least_table.specs.BestHops.{Hops, Any, Of, wants, first_best_hop}
use Rattle.nearest_table.specs.Laws.{EditsLaw}
use Rattle.least_table.specs.Nearest.{has, missing_routes, stores, surplus_routes}
use Rattle.nearest_table.specs.Plans.{Tree, Stay, Fork, Held, tree_best, IsPlan, edits_of, new_table}
use Rattle.least_table.specs.Tables.{IsBitTable, half, half_of, own, inside}
use Rattle.least_table.specs.Wholes.{without_own, whole, with_own}
use Rattle.least_table.proofs.Distances.{has-half, has-own, is_own, stores-half, stores-own}
use Rattle.least_table.proofs.Sets.{same_hop-refl}
use Rattle.least_table.proofs.Split.{joined, half-joined, own_covers, own-bare, half-bare, own-with, half-with, IsBitTable-bare, IsBitTable-half}
use Rattle.least_table.proofs.Makes.{distance-self}
use Rattle.nearest_table.proofs.Trees.{first_best, other_hop, plain}

-- ---- tables in order

before_half : (a : List Bool) (t : List (List Bool × Option ℕ)) (b : Bool) → ComesBeforeAll (b ∷ a) t → ComesBeforeAll a (half t b)
before_half a [] b h = tt
before_half a ((false ∷ c, k) ∷ t) false h = (h.0, before_half a t false h.1)
before_half a ((true ∷ c, k) ∷ t) true h = (h.0, before_half a t true h.1)
before_half a (_ ∷ t) b h = before_half a t b h.1

pub ordered_half : (t : List (List Bool × Option ℕ)) (b : Bool) → IsInOrder t → IsInOrder (half t b)
ordered_half [] b h = tt
ordered_half ((false ∷ c, k) ∷ t) false h = (before_half c t false h.0, ordered_half t false h.1)
ordered_half ((true ∷ c, k) ∷ t) true h = (before_half c t true h.0, ordered_half t true h.1)
ordered_half (_ ∷ t) b h = ordered_half t b h.1

pub ordered_bare : (t : List (List Bool × Option ℕ)) → IsInOrder t → IsInOrder (without_own t)
ordered_bare [] h = tt
ordered_bare (([], k) ∷ t) h = ordered_bare t h.1
ordered_bare ((b ∷ c, k) ∷ t) h = (before_bare t h.0, ordered_bare t h.1)
  where
    before_bare : (t : List (List Bool × Option ℕ)) → ComesBeforeAll (b ∷ c) t → ComesBeforeAll (b ∷ c) (without_own t)
    before_bare [] h = tt
    before_bare (([], k) ∷ t) h = before_bare t h.1
    before_bare (_ ∷ t) h = (h.0, before_bare t h.1)

-- the route of the whole block comes first
no_own : (a : List Bool) (t : List (List Bool × Option ℕ)) → ComesBeforeAll a t → own t ≡ None
no_own a [] h = refl
no_own a ((b ∷ c, k) ∷ t) h = no_own a t h.1
no_own [] (r ∷ t) h = let e = h.0 in cc
no_own _ (r ∷ t) h = let e = h.0 in cc

no_low : (a : List Bool) (t : List (List Bool × Option ℕ)) → ComesBeforeAll (true ∷ a) t → half t false ≡ []
no_low a [] h = refl
no_low a ((true ∷ c, k) ∷ t) h = no_low a t h.1
no_low a (_ ∷ t) h = let e = h.0 in cc

pub ordered_split : (t : List (List Bool × Option ℕ)) → IsInOrder t → t ≡ whole (own t) (half t false) (half t true)
ordered_split [] h = refl
ordered_split (([], k) ∷ t) h = grind (arith, ordered_split t h.1, no_own [] t h.0)
ordered_split ((false ∷ c, k) ∷ t) h = grind (arith, ordered_split t h.1, no_own (false ∷ c) t h.0)
ordered_split ((true ∷ c, k) ∷ t) h = grind (arith, ordered_split t h.1, no_own (true ∷ c) t h.0, no_low c t h.0)

pub no_bare : (t : List (List Bool × Option ℕ)) → own t ≡ None → without_own t ≡ t
no_bare [] e = refl
no_bare (([], k) ∷ t) e = cc
no_bare (_ ∷ t) e = cc (no_bare t e)

pub held_first : (k : Option ℕ) (t : List (List Bool × Option ℕ)) → IsInOrder t → own t ≡ Some k → t ≡ ([], k) ∷ without_own t
held_first k [] h e = cc
held_first k (([], j) ∷ t) h e = grind (arith, e, no_bare t (no_own [] t h.0))
held_first k ((b ∷ c, j) ∷ t) h e = let f = no_own (b ∷ c) t h.0 in cc

-- ---- missing and surplus routes, by halves

missing_in : (t : List (List Bool × Option ℕ)) (b : Bool) (l : List (List Bool × Option ℕ)) → missing_routes t (inside b l) ≡ inside b (missing_routes (half t b) l)
missing_in t b [] = refl
missing_in t b (r ∷ l) = grind (arith, has-half t b r.0 r.1, missing_in t b l)

surplus_in : (u : List (List Bool × Option ℕ)) (b : Bool) (l : List (List Bool × Option ℕ)) → surplus_routes (inside b l) u ≡ inside b (surplus_routes l (half u b))
surplus_in u b [] = refl
surplus_in u b (r ∷ l) = grind (arith, stores-half u b r.0, surplus_in u b l)

missing-joined : (t l r : List (List Bool × Option ℕ)) → missing_routes t (joined l r) ≡ joined (missing_routes (half t false) l) (missing_routes (half t true) r)
missing-joined t l r = filter-append (λ q. not (has t q)) (inside false l) (inside true r) ∙ ap₂ (λ x y. x ++ y) (missing_in t false l) (missing_in t true r)

surplus-joined : (u l r : List (List Bool × Option ℕ)) → surplus_routes (joined l r) u ≡ joined (surplus_routes l (half u false)) (surplus_routes r (half u true))
surplus-joined u l r = filter-append (λ q. not (stores u q.0)) (inside false l) (inside true r) ∙ ap₂ (λ x y. x ++ y) (surplus_in u false l) (surplus_in u true r)

-- ---- and without the route of the whole block

missing-bare : (t u : List (List Bool × Option ℕ)) → own u ≡ None → missing_routes t u ≡ missing_routes (without_own t) u
missing-bare t [] e = refl
missing-bare t (([], k) ∷ u) e = cc
missing-bare t ((b ∷ c, k) ∷ u) e = grind (arith, has-half t b c k, has-half (without_own t) b c k, half-bare t b, missing-bare t u e)

surplus-with : (o : Option (Option ℕ)) (t u : List (List Bool × Option ℕ)) → own t ≡ None → surplus_routes t (with_own o u) ≡ surplus_routes t u
surplus-with o [] u e = refl
surplus-with o (([], k) ∷ t) u e = cc
surplus-with o ((b ∷ c, k) ∷ t) u e = grind (arith, stores-half (with_own o u) b c, stores-half u b c, half-with o u b, surplus-with o t u e)

none_missing : (w : ℕ) (t : List (List Bool × Option ℕ)) → IsBitTable w t → (missing_routes t t ≡ []) × (surplus_routes t t ≡ [])
none_missing w t h = let e = distance-self w t h in (nil_from_length (missing_routes t t) (omega (arith, e)), nil_from_length (surplus_routes t t) (omega (arith, e)))

-- ---- edits

blocks-inside : (b : Bool) (t : List (List Bool × Option ℕ)) → blocks (inside b t) ≡ map (λ c. b ∷ c) (blocks t)
blocks-inside b [] = refl
blocks-inside b (r ∷ t) = ap (λ u. (b ∷ r.0) ∷ u) (blocks-inside b t)

blocks-append : (t u : List (List Bool × Option ℕ)) → blocks (t ++ u) ≡ blocks t ++ blocks u
blocks-append [] u = refl
blocks-append (r ∷ t) u = ap (λ v. r.0 ∷ v) (blocks-append t u)

installed-in : (b : Bool) (es : List (List Bool × Option (Option ℕ))) → installed_in (inside b es) ≡ inside b (installed_in es)
installed-in b [] = refl
installed-in b ((c, Some k) ∷ es) = ap (λ u. (b ∷ c, k) ∷ u) (installed-in b es)
installed-in b ((c, None) ∷ es) = installed-in b es

removed-in : (b : Bool) (es : List (List Bool × Option (Option ℕ))) → removed_in (inside b es) ≡ map (λ c. b ∷ c) (removed_in es)
removed-in b [] = refl
removed-in b ((c, Some k) ∷ es) = removed-in b es
removed-in b ((c, None) ∷ es) = ap (λ u. (b ∷ c) ∷ u) (removed-in b es)

pub installed-append : (es fs : List (List Bool × Option (Option ℕ))) → installed_in (es ++ fs) ≡ installed_in es ++ installed_in fs
installed-append [] fs = refl
installed-append ((c, Some k) ∷ es) fs = ap (λ u. (c, k) ∷ u) (installed-append es fs)
installed-append ((c, None) ∷ es) fs = installed-append es fs

pub removed-append : (es fs : List (List Bool × Option (Option ℕ))) → removed_in (es ++ fs) ≡ removed_in es ++ removed_in fs
removed-append [] fs = refl
removed-append ((c, Some k) ∷ es) fs = removed-append es fs
removed-append ((c, None) ∷ es) fs = ap (λ u. c ∷ u) (removed-append es fs)

-- the edits of both halves are those of the whole
pub edits-joined : (t l r : List (List Bool × Option ℕ)) (es fs : List (List Bool × Option (Option ℕ))) → t ≡ joined (half t false) (half t true) → AreEdits (half t false) l es → AreEdits (half t true) r fs → AreEdits t (joined l r) (inside false es ++ inside true fs)
edits-joined t l r es fs split a b = record {
  installs = installed-append (inside false es) (inside true fs) ∙ ap₂ (λ x y. x ++ y) (installed-in false es ∙ ap (inside false) a.installs) (installed-in true fs ∙ ap (inside true) b.installs) ∙ sym (missing-joined t l r);
  removes = removed-append (inside false es) (inside true fs) ∙ ap₂ (λ x y. x ++ y) (half_blocks false es (half t false) l a) (half_blocks true fs (half t true) r b)
      ∙ sym (blocks-append (inside false (surplus_routes (half t false) l)) (inside true (surplus_routes (half t true) r)))
      ∙ ap₂ (λ x y. blocks (inside false (surplus_routes (half t false) x) ++ inside true (surplus_routes (half t true) y))) (sym (half-joined l r false)) (sym (half-joined l r true))
      ∙ ap blocks (sym (surplus-joined (joined l r) (half t false) (half t true)) ∙ ap (λ v. surplus_routes v (joined l r)) (sym split));
}
  where
    half_blocks : (b : Bool) (es : List (List Bool × Option (Option ℕ))) (t u : List (List Bool × Option ℕ)) → AreEdits t u es → removed_in (inside b es) ≡ blocks (inside b (surplus_routes t u))
    half_blocks b es t u a = removed-in b es ∙ ap (map (λ c. b ∷ c)) a.removes ∙ sym (blocks-inside b (surplus_routes t u))

-- a route is installed in a block that had none
edits-new : (w : ℕ) (t u : List (List Bool × Option ℕ)) (k : Option ℕ) (es : List (List Bool × Option (Option ℕ))) → IsBitTable w t → own t ≡ None → AreEdits t u es → AreEdits t (([], k) ∷ u) (([], Some k) ∷ es)
edits-new w t u k es table e a = record {
  installs = ap (λ us. ([], k) ∷ us) a.installs ∙ ap (λ v. cond (not v) (([], k) ∷ missing_routes t u) (missing_routes t u)) (sym (has-own w t k table ∙ ap (λ o. is_own o k) e));
  removes = a.removes ∙ ap blocks (sym (surplus-with (Some k) t u e));
}

-- the edits beside a route that stays
module _ (w : ℕ) (t u : List (List Bool × Option ℕ)) (k : Option ℕ) (es : List (List Bool × Option (Option ℕ))) (table : IsBitTable w t) (held : own t ≡ Some k) (whole_first : t ≡ ([], k) ∷ without_own t) (none : own u ≡ None) (a : AreEdits (without_own t) u es) where
  installs : (o : Option (Option ℕ)) (v : Bool) (j : Option ℕ) → o ≡ Some j → is_same_hop k j ≡ v → missing_routes t (with_own o u) ≡ cond (not v) (([], j) ∷ installed_in es) (installed_in es)
  installs o v j e f = ap (λ p. missing_routes t (with_own p u)) e ∙ ap₂ (λ b us. cond (not b) (([], j) ∷ us) us) (has-own w t j table ∙ ap (λ p. is_own p j) held ∙ f) (missing-bare t u none ∙ sym a.installs)

  leaves : (o : Option (Option ℕ)) → surplus_routes t (with_own o u) ≡ cond (not (is_some o)) (([], k) ∷ surplus_routes (without_own t) u) (surplus_routes (without_own t) u)
  leaves o = ap (λ v. surplus_routes v (with_own o u)) whole_first ∙ ap₂ (λ v us. cond (not v) (([], k) ∷ us) us) (stores-own (with_own o u) ∙ ap is_some (own-with o u none)) (surplus-with o (without_own t) u (own-bare t))

  pub edits-kept : AreEdits t (([], k) ∷ u) es
  edits-kept = record { installs = sym (installs (Some k) true k refl (same_hop-refl k)); removes = a.removes ∙ ap blocks (sym (leaves (Some k))) }

  pub edits-gone : AreEdits t u (([], None) ∷ es)
  edits-gone = record { installs = a.installs ∙ sym (missing-bare t u none); removes = ap (λ bs. [] ∷ bs) a.removes ∙ ap blocks (sym (leaves None)) }

  pub edits-other : (j : Option ℕ) → is_same_hop k j ≡ false → AreEdits t (([], j) ∷ u) (([], Some j) ∷ es)
  edits-other j e = record { installs = sym (installs (Some j) false j refl e); removes = a.removes ∙ ap blocks (sym (leaves (Some j))) }

pub edits-none : (w : ℕ) (t : List (List Bool × Option ℕ)) → IsBitTable w t → AreEdits t t []
edits-none w t table = let none = none_missing w t table in record { installs = sym none.0; removes = ap blocks (sym none.1) }

-- ---- plans

module _ (w : ℕ) (t : List (List Bool × Option ℕ)) (hops : Hops) (l r : Tree) (table : IsBitTable w t) (none : own t ≡ None) (order : IsInOrder t)
    (low : (c : Option ℕ) → AreEdits (half t false) (new_table l (half t false) c) (edits_of l c)) (high : (c : Option ℕ) → AreEdits (half t true) (new_table r (half t true) c) (edits_of r c)) where
  both : (c : Option ℕ) → AreEdits t (joined (new_table l (half t false) c) (new_table r (half t true) c)) (inside false (edits_of l c) ++ inside true (edits_of r c))
  both c = edits-joined t (new_table l (half t false) c) (new_table r (half t true) c) (edits_of l c) (edits_of r c) (ordered_split t order ∙ ap (λ o. whole o (half t false) (half t true)) none) (low c) (high c)

  fork_edits : (s : Option ℕ) → AreEdits t (new_table (Fork hops l r) t s) (edits_of (Fork hops l r) s)
  fork_edits s = go (wants hops s)
    where
      go : (v : Bool) → AreEdits t (cond v (joined (new_table l (half t false) s) (new_table r (half t true) s)) (([], first_best_hop hops) ∷ joined (new_table l (half t false) (first_best_hop hops)) (new_table r (half t true) (first_best_hop hops))))
          (cond v (inside false (edits_of l s) ++ inside true (edits_of r s)) (([], Some (first_best_hop hops)) ∷ inside false (edits_of l (first_best_hop hops)) ++ inside true (edits_of r (first_best_hop hops))))
      go true = both s
      go false = edits-new w t _ (first_best_hop hops) _ table none (both (first_best_hop hops))

module _ (w : ℕ) (h : List Bool → Option ℕ) (t : List (List Bool × Option ℕ)) (k : Option ℕ) (p : Tree) (table : IsBitTable w t) (held : own t ≡ Some k) (order : IsInOrder t) (plan : IsPlan w h (without_own t) p)
    (inner : (c : Option ℕ) → AreEdits (without_own t) (new_table p (without_own t) c) (edits_of p c)) where
  nothing : (c : Option ℕ) → wants (tree_best p) c ≡ true → own (new_table p (without_own t) c) ≡ None
  nothing c e = plain w h (without_own t) p plan (own-bare t) c e

  some : wants (tree_best p) (first_best_hop (tree_best p)) ≡ true
  some = first_best w h (without_own t) p (IsBitTable-bare w t table) plan

  held_edits : (s : Option ℕ) → AreEdits t (new_table (Held k p) t s) (edits_of (Held k p) s)
  held_edits s = go (wants (tree_best p) k) (wants (tree_best p) s) refl refl
    where
      go : (u v : Bool) → wants (tree_best p) k ≡ u → wants (tree_best p) s ≡ v
          → AreEdits t (cond u (([], k) ∷ new_table p (without_own t) k) (cond v (new_table p (without_own t) s) (([], first_best_hop (tree_best p)) ∷ new_table p (without_own t) (first_best_hop (tree_best p)))))
          (cond u (edits_of p k) (cond v (([], None) ∷ edits_of p s) (([], Some (first_best_hop (tree_best p))) ∷ edits_of p (first_best_hop (tree_best p)))))
      go true v e f = edits-kept w t (new_table p (without_own t) k) k (edits_of p k) table held (held_first k t order held) (nothing k e) (inner k)
      go false true e f = edits-gone w t (new_table p (without_own t) s) k (edits_of p s) table held (held_first k t order held) (nothing s f) (inner s)
      go false false e f = edits-other w t (new_table p (without_own t) (first_best_hop (tree_best p))) k (edits_of p (first_best_hop (tree_best p))) table held (held_first k t order held) (nothing (first_best_hop (tree_best p)) some) (inner (first_best_hop (tree_best p))) (first_best_hop (tree_best p)) (other_hop (tree_best p) k (first_best_hop (tree_best p)) e some)

plan_edits : (w : ℕ) (h : List Bool → Option ℕ) (t : List (List Bool × Option ℕ)) (p : Tree) → IsBitTable w t → IsInOrder t → IsPlan w h t p → (s : Option ℕ) → AreEdits t (new_table p t s) (edits_of p s)
plan_edits w h t (Stay Any) table order plan s = edits-none w t table
plan_edits w h t (Stay (Of ks)) table order plan s = go (holds ks s)
  where
    none : own t ≡ None
    none = own_covers w t plan.1.2 table plan.1.4

    go : (v : Bool) → AreEdits t (cond v t (([], first_hop ks) ∷ t)) (cond v [] (([], Some (first_hop ks)) ∷ []))
    go true = edits-none w t table
    go false = edits-new w t t (first_hop ks) [] table none (edits-none w t table)
plan_edits w h t (Fork hops l r) table order plan s =
    let less : IsBitTable (suc plan.0) t = subst (λ i. IsBitTable i t) plan.1 table in
    fork_edits w t hops l r table plan.2 order (λ c. plan_edits plan.0 (half_of false h) (half t false) l (IsBitTable-half plan.0 t false less) (ordered_half t false order) plan.4 c)
    (λ c. plan_edits plan.0 (half_of true h) (half t true) r (IsBitTable-half plan.0 t true less) (ordered_half t true order) plan.5 c) s
plan_edits w h t (Held k p) table order plan s = held_edits w h t k p table plan.0 order plan.1 (λ c. plan_edits w h (without_own t) p (IsBitTable-bare w t table) (ordered_bare t order) plan.1 c) s

pub edits_law : EditsLaw
edits_law w h s t p table order plan = plan_edits w h t p table order plan s
