-- Plans of blocks, from the changes and the routes inside.
use Rattle.std.proofs.Common.{◌≡◌, ℕ, zero, suc, ◌-◌, ◌<◌, ◌≤◌, Bool, true, false, List, [], ◌∷◌, ◌++◌, length, replicate, Option, Some, None, refl, sym, ap, ap₂, ◌∙◌, subst, arith, length-append}
use Rattle.std.proofs.Math.ListN.{length-replicate}
use Rattle.least_table.specs.BestHops.{Any, Of}
use Rattle.nearest_table.specs.InnerPlans.{HasMore, IsJoined, IsTold, Plans, owned_tree, tree_of}
use Rattle.nearest_table.specs.Plans.{Tree, Stay, Fork, Held, IsPlan, tree_best}
use Rattle.nearest_table.specs.Wanted.{Rises}
use Rattle.least_table.specs.Tables.{IsBitTable, half, half_of, hop_inheriting, longest_route, own, passed}
use Rattle.least_table.specs.Wholes.{without_own}
use Rattle.nearest_table.specs.Blocks.{inner, IsCovered, innermost_route}
use Rattle.nearest_table.specs.Told.{new_hop}
use Rattle.nearest_table.specs.declared.plans.Plan.{Plan, One, Idle}
use Rattle.least_table.proofs.Split.{hop-half, IsBitTable-half, IsBitTable-bare, own-bare, half-bare, same_hops}
use Rattle.nearest_table.proofs.TreeEdits.{no_bare}

-- a plan for one function of hops is one for the same
pub plan_same : (w : ℕ) (h g : List Bool → Option ℕ) (t : List (List Bool × Option ℕ)) (p : Tree) → ((x : List Bool) → length x ≡ w → g x ≡ h x) → IsPlan w h t p → IsPlan w g t p
plan_same w h g t (Stay Any) e plan = (plan.0, ((λ x l. e x l ∙ plan.1.0 x l), plan.1.1))
plan_same w h g t (Stay (Of ks)) e plan = (plan.0, (plan.1.0, (λ x l. e x l ∙ plan.1.1 x l), plan.1.2, plan.1.3, plan.1.4))
plan_same w h g t (Fork hops l r) e plan = (
  plan.0,
  plan.1,
  plan.2,
  plan.3,
  plan_same plan.0 (half_of false h) (half_of false g) (half t false) l (λ x k. e (false ∷ x) (ap suc k ∙ sym plan.1)) plan.4,
  plan_same plan.0 (half_of true h) (half_of true g) (half t true) r (λ x k. e (true ∷ x) (ap suc k ∙ sym plan.1)) plan.5,
)
plan_same w h g t (Held k p) e plan = (plan.0, plan_same w h g (without_own t) p e plan.1)

-- ---- the hops inside a block

pub passed_told : (o : Option (Option ℕ)) (c : Option (Option ℕ)) (k : Option ℕ) → passed (passed k o) c ≡ passed k (innermost_route o c)
passed_told o c k = grind arith

pub hop-new_half : (told : Option (Option ℕ)) (old : Option ℕ) (cs t : List (List Bool × Option ℕ)) (b : Bool) (x : List Bool) → new_hop told old cs t (b ∷ x) ≡ new_hop (innermost_route told (own cs)) (passed old (own t)) (half cs b) (half t b) x
hop-new_half told old cs t b x =
    hop-half (passed (hop_inheriting old t (b ∷ x)) told) cs b x
    ∙ ap (λ s. hop_inheriting s (half cs b) x) (passed_told told (own cs) (hop_inheriting old t (b ∷ x)) ∙ ap (λ k. passed k (innermost_route told (own cs))) (hop-half old t b x))

-- the change of the block itself doesn't count twice
new_same : (w : ℕ) (told : Option (Option ℕ)) (old : Option ℕ) (cs t : List (List Bool × Option ℕ)) → IsBitTable w cs → (x : List Bool) → new_hop told old cs t x ≡ new_hop (innermost_route told (own cs)) old cs t x
new_same w told old cs t table x = go (own cs) refl
  where
    go : (c : Option (Option ℕ)) → own cs ≡ c → new_hop told old cs t x ≡ new_hop (innermost_route told c) old cs t x
    go None e = refl
    go (Some j) e = same_hops w (passed (hop_inheriting old t x) told) j cs cs table table (ap (passed (passed (hop_inheriting old t x) told)) e ∙ sym (ap (passed j) e)) (λ b. refl) x

-- if nothing is strictly inside, all addresses have the hop of the block
leaf_hop : (w : ℕ) (s : Option ℕ) (t : List (List Bool × Option ℕ)) → IsBitTable w t → without_own t ≡ [] → (x : List Bool) → hop_inheriting s t x ≡ passed s (own t)
leaf_hop w s t table e x = same_hops w s (passed s (own t)) t [] table tt refl (λ b. sym (half-bare t b) ∙ ap (λ u. half u b) e) x

-- ---- blocks that need no cut

empty_changes : (told : Option (Option ℕ)) (cs : List (List Bool × Option ℕ)) → IsTold told cs → told ≡ None → without_own cs ≡ [] → cs ≡ []
empty_changes told cs h e f = sym (no_bare cs (grind (arith, h.1, e))) ∙ f

module _ (w : ℕ) (old : Option ℕ) (told : Option (Option ℕ)) (cs t : List (List Bool × Option ℕ)) (h : IsTold told cs) (leaf : without_own cs ≡ []) where
  stays : told ≡ None → (x : List Bool) → new_hop told old cs t x ≡ hop_inheriting old t x
  stays e x = ap₂ (λ o c. new_hop o old c t x) e (empty_changes told cs h e leaf)

  pub idle_plan : told ≡ None → (v : Bool) → v ≡ true → IsCovered v w t → Plans w told old cs t Idle
  idle_plan e v i c = ((old, ((λ x l. stays e x), subst (λ u. IsCovered u w t) i c)), tt)

  pub one_plan : told ≡ None → (v : Bool) → v ≡ false → IsCovered v w t → Plans w told old cs t (One old)
  one_plan e v i c = let u = subst (λ u. IsCovered u w t) i c in ((old, (refl, (λ x l. stays e x), u.0, u.1, u.2)), (tt, tt))

-- the plan with the route of the block
pub owned_plan : (w : ℕ) (h : List Bool → Option ℕ) (t : List (List Bool × Option ℕ)) (o : Option (Option ℕ)) (p : Tree) → o ≡ own t → IsPlan w h (without_own t) p → IsPlan w h t (owned_tree o p)
owned_plan w h t None p e plan = subst (λ u. IsPlan w h u p) (no_bare t (sym e)) plan
owned_plan w h t (Some k) p e plan = (sym e, plan)

rises_owned : (o : Option (Option ℕ)) (p q : Tree) → p ≡ owned_tree o q → Rises (tree_best q) → Rises (tree_best p)
rises_owned None p q e h = subst (λ p. Rises (tree_best p)) (sym e) h
rises_owned (Some k) p q e h = subst (λ p. Rises (tree_best p)) (sym e) tt

pub told_plan : (w : ℕ) (old k : Option ℕ) (told o : Option (Option ℕ)) (cs t : List (List Bool × Option ℕ)) (p : Plan) → IsBitTable w cs → IsTold told cs → without_own cs ≡ [] → told ≡ Some k → without_own t ≡ [] → o ≡ own t → tree_of p ≡ owned_tree o (Stay (Of (k ∷ []))) → Plans w told old cs t p
told_plan w old k told o cs t p table h leaf e f held is = (subst (IsPlan w (new_hop told old cs t) t) (sym is) (owned_plan w (new_hop told old cs t) t o (Stay (Of (k ∷ []))) held (k, (refl, same, replicate w false, length-replicate w false, ap (λ u. longest_route u (replicate w false)) f))), rises_owned o (tree_of p) (Stay (Of (k ∷ []))) is (tt, tt))
  where
    same : (x : List Bool) → length x ≡ w → new_hop told old cs t x ≡ hop_inheriting k (without_own t) x
    same x l = ap (λ o. new_hop o old cs t x) e ∙ leaf_hop w k cs table leaf x ∙ grind (arith, h.1, e) ∙ sym (ap (λ u. hop_inheriting k u x) f)

-- ---- halves

pub inner-more : (b : List Bool) (c : Bool) (t : List (List Bool × Option ℕ)) → inner (b ++ c ∷ []) t ≡ half (inner b t) c
inner-more [] c t = refl
inner-more (a ∷ b) c t = inner-more b c (half t a)

pub no_bits : (t : List (List Bool × Option ℕ)) → IsBitTable 0 t → without_own t ≡ []
no_bits [] h = refl
no_bits (([], k) ∷ t) h = no_bits t h.2
no_bits ((b ∷ c, k) ∷ t) h = absurd (omega (arith, h.0))

-- a block with something strictly inside can be cut
pub can_cut : (w : ℕ) (cs t : List (List Bool × Option ℕ)) → IsBitTable w cs → IsBitTable w t → HasMore cs t → 0 < w
can_cut zero cs t c i h = absurd (h (no_bits cs c) (no_bits t i))
can_cut (suc w) cs t c i h = omega arith

module _ (W : ℕ) (b : List Bool) (short : length b < W) where
  pub less : (c : Bool) (b' : List Bool) → b' ≡ b ++ c ∷ [] → (suc (W - length b') ≡ W - length b) × (length b' ≤ W)
  less c b' e = (omega (arith, short, ap length e, length-append b (c ∷ [])), omega (arith, short, ap length e, length-append b (c ∷ [])))

  pub table_half : (c : Bool) (b' : List Bool) (t : List (List Bool × Option ℕ)) → b' ≡ b ++ c ∷ [] → IsBitTable (W - length b) (inner b t) → IsBitTable (W - length b') (inner b' t)
  table_half c b' t e h = subst (IsBitTable (W - length b')) (sym (ap (λ d. inner d t) e ∙ inner-more b c t)) (IsBitTable-half (W - length b') (inner b t) c (subst (λ w. IsBitTable w (inner b t)) (sym (less c b' e).0) h))

  -- the plan of a half, as one of the whole's hops
  half_plan : (c : Bool) (b' : List Bool) (told here held : Option (Option ℕ)) (old k : Option ℕ) (cs t : List (List Bool × Option ℕ)) (p : Tree) → b' ≡ b ++ c ∷ [] → here ≡ innermost_route told (own (inner b cs)) → held ≡ own (inner b t) → k ≡ passed old held
      → IsPlan (W - length b') (new_hop here k (inner b' cs) (inner b' t)) (inner b' t) p → IsPlan (W - length b') (half_of c (new_hop told old (inner b cs) (inner b t))) (half (without_own (inner b t)) c) p
  half_plan c b' told here held old k cs t p e f g i plan =
      plan_same (W - length b') (new_hop here k (inner b' cs) (inner b' t)) (half_of c (new_hop told old (inner b cs) (inner b t))) (half (without_own (inner b t)) c) p
      (λ x l. hop-new_half told old (inner b cs) (inner b t) c x ∙ ap₂ (λ o s. new_hop o s (half (inner b cs) c) (half (inner b t) c) x) (sym f) (ap (λ o. passed old o) (sym g) ∙ sym i) ∙ ap₂ (λ u v. new_hop here k u v x) (part cs) (part t))
      (subst (λ u. IsPlan (W - length b') (new_hop here k (inner b' cs) (inner b' t)) u p) (sym (part t) ∙ sym (half-bare (inner b t) c)) plan)
    where
      part : (t : List (List Bool × Option ℕ)) → half (inner b t) c ≡ inner b' t
      part t = sym (ap (λ d. inner d t) e ∙ inner-more b c t)

  pub fork_plan : (b0 b1 : List Bool) (told here held : Option (Option ℕ)) (old k : Option ℕ) (cs t : List (List Bool × Option ℕ)) (l r q p : Plan) → IsBitTable (W - length b) (inner b t) → b0 ≡ b ++ false ∷ [] → b1 ≡ b ++ true ∷ [] → here ≡ innermost_route told (own (inner b cs)) → held ≡ own (inner b t) → k ≡ passed old held
      → Plans (W - length b0) here k (inner b0 cs) (inner b0 t) l → Plans (W - length b1) here k (inner b1 cs) (inner b1 t) r → IsJoined (tree_of l) (tree_of r) q → tree_of p ≡ owned_tree held (tree_of q)
      → Plans (W - length b) told old (inner b cs) (inner b t) p
  fork_plan b0 b1 told here held old k cs t l r q p table e0 e1 f g i pl pr is own_is =
      (subst (IsPlan (W - length b) (new_hop told old (inner b cs) (inner b t)) (inner b t)) (sym own_is) (owned_plan (W - length b) (new_hop told old (inner b cs) (inner b t)) (inner b t) held (tree_of q) g joined), rises_owned held (tree_of p) (tree_of q) own_is is.1)
    where
      same_bits : length b1 ≡ length b0
      same_bits = omega (arith, ap length e0, ap length e1, length-append b (false ∷ []), length-append b (true ∷ []))

      low : IsPlan (W - length b0) (half_of false (new_hop told old (inner b cs) (inner b t))) (half (without_own (inner b t)) false) (tree_of l)
      low = half_plan false b0 told here held old k cs t (tree_of l) e0 f g i pl.0

      high : IsPlan (W - length b0) (half_of true (new_hop told old (inner b cs) (inner b t))) (half (without_own (inner b t)) true) (tree_of r)
      high = subst (λ n. IsPlan (W - n) (half_of true (new_hop told old (inner b cs) (inner b t))) (half (without_own (inner b t)) true) (tree_of r)) same_bits (half_plan true b1 told here held old k cs t (tree_of r) e1 f g i pr.0)

      plain : IsBitTable (suc (W - length b0)) (without_own (inner b t))
      plain = IsBitTable-bare (suc (W - length b0)) (inner b t) (subst (λ w. IsBitTable w (inner b t)) (sym (less false b0 e0).0) table)

      joined : IsPlan (W - length b) (new_hop told old (inner b cs) (inner b t)) (without_own (inner b t)) (tree_of q)
      joined = subst (λ w. IsPlan w (new_hop told old (inner b cs) (inner b t)) (without_own (inner b t)) (tree_of q)) (less false b0 e0).0 (is.0 (W - length b0) (new_hop told old (inner b cs) (inner b t)) (without_own (inner b t)) plain (own-bare (inner b t)) low high)

pub told_same : (w : ℕ) (told here : Option (Option ℕ)) (old : Option ℕ) (cs t : List (List Bool × Option ℕ)) (p : Plan) → IsBitTable w cs → here ≡ innermost_route told (own cs) → Plans w here old cs t p → Plans w told old cs t p
told_same w told here old cs t p table e plan = (plan_same w (new_hop here old cs t) (new_hop told old cs t) t (tree_of p) (λ x l. new_same w told old cs t table x ∙ ap (λ o. new_hop o old cs t x) (sym e)) plan.0, plan.1)

pub cut_short : (W : ℕ) (b : List Bool) (cs t : List (List Bool × Option ℕ)) → IsBitTable (W - length b) cs → IsBitTable (W - length b) t → HasMore cs t → length b < W
cut_short W b cs t c i h = omega (arith, can_cut (W - length b) cs t c i h)
