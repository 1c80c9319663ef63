-- Plans of blocks by those of their halves.
use Rattle.std.proofs.Common.{◌≡◌, ℕ, suc, Bool, true, false, List, [], ◌∷◌, length, Option, None, refl, sym, ap, ◌∙◌, subst, arith}
use Rattle.least_table.specs.BestHops.{Any, Of}
use Rattle.nearest_table.specs.InnerPlans.{IsFork, IsJoined, OfHalves, tree_of}
use Rattle.nearest_table.specs.Plans.{Stay}
use Rattle.nearest_table.specs.Blocks.{Covers}
use Rattle.least_table.specs.Tables.{half, half_of, hop_inheriting, own, passed}
use Rattle.nearest_table.specs.declared.plans.Plan.{Plan, Fork', One, Idle}
use Rattle.nearest_table.proofs.Coverings.{half_covered, half_free}
use Rattle.least_table.proofs.Split.{hop-half}
use Rattle.nearest_table.proofs.Trees.{covered}

module _ (v : ℕ) (h : List Bool → Option ℕ) (t : List (List Bool × Option ℕ)) (none : own t ≡ None) where
  -- a half that has its new hops where k is handed down
  abbrev Same : Bool → Option ℕ → Type 0
  Same b k = (x : List Bool) → length x ≡ v → half_of b h x ≡ hop_inheriting k (half t b) x

  up : (b : Bool) (k : Option ℕ) → Same b k → (x : List Bool) → length x ≡ v → h (b ∷ x) ≡ hop_inheriting k t (b ∷ x)
  up b k same x l = same x l ∙ sym (hop-half k t b x ∙ ap (λ o. hop_inheriting (passed k o) (half t b) x) none)

  both : (k : Option ℕ) → Same false k → Same true k → (x : List Bool) → length x ≡ suc v → h x ≡ hop_inheriting k t x
  both k low high [] l = absurd (omega (arith, l))
  both k low high (false ∷ x) l = up false k low x (omega (arith, l))
  both k low high (true ∷ x) l = up true k high x (omega (arith, l))

  -- a half that is covered has them whatever is handed down
  turn : (b : Bool) (j k : Option ℕ) → Same b j → Covers v (half t b) → Same b k
  turn b j k same c x l = same x l ∙ covered j k (half t b) x (c x l)

  covers : Covers v (half t false) → Covers v (half t true) → Covers (suc v) t
  covers a b [] l f = absurd (omega (arith, l))
  covers a b (false ∷ x) l f = a x (omega (arith, l)) (half_covered t false x f)
  covers a b (true ∷ x) l f = b x (omega (arith, l)) (half_covered t true x f)

same_one : (j k : Option ℕ) → j ∷ [] ≡ k ∷ [] → k ≡ j
same_one j k e = cc

pub idle_idle : OfHalves (Stay Any) (Stay Any) Idle
idle_idle v h t table none l r = (l.0, (both v h t none l.0 l.1.0 (turn v h t none true r.0 l.0 r.1.0 r.1.1), covers v h t none l.1.1 r.1.1))

pub one_idle : (k : Option ℕ) → OfHalves (Stay (Of (k ∷ []))) (Stay Any) (One k)
one_idle k v h t table none l r =
    let e : l.0 ≡ k = same_one k l.0 l.1.0 in
    (k, (refl, both v h t none k (subst (Same v h t none false) e l.1.1) (turn v h t none true r.0 k r.1.0 r.1.1), false ∷ l.1.2, ap suc l.1.3, half_free t false l.1.2 none l.1.4))

pub idle_one : (k : Option ℕ) → OfHalves (Stay Any) (Stay (Of (k ∷ []))) (One k)
idle_one k v h t table none l r =
    let e : r.0 ≡ k = same_one k r.0 r.1.0 in
    (k, (refl, both v h t none k (turn v h t none false l.0 k l.1.0 l.1.1) (subst (Same v h t none true) e r.1.1), true ∷ r.1.2, ap suc r.1.3, half_free t true r.1.2 none r.1.4))

pub one_one : (k : Option ℕ) → OfHalves (Stay (Of (k ∷ []))) (Stay (Of (k ∷ []))) (One k)
one_one k v h t table none l r =
    let d : l.0 ≡ k = same_one k l.0 l.1.0 in
    let e : r.0 ≡ k = same_one k r.0 r.1.0 in
    (k, (refl, both v h t none k (subst (Same v h t none false) d l.1.1) (subst (Same v h t none true) e r.1.1), false ∷ l.1.2, ap suc l.1.3, half_free t false l.1.2 none l.1.4))

pub fork_halves : (low high p : Plan) → IsFork low high p → IsJoined (tree_of low) (tree_of high) p
fork_halves low high (Fork' hops u l q r) is = ((λ v h t table none a b. (v, refl, none, rw (is.0, is.1) is.2, rw is.0 a, rw is.1 b)), is.3)
fork_halves low high p is = absurd is
