-- The routes of a plan are a least table.
use Rattle.std.proofs.Common.{◌≡◌, ℕ, suc, ◌+◌, Bool, true, false, cond, not, List, [], ◌∷◌, ◌++◌, length, replicate, Option, Some, None, refl, ap, ap₂, ◌∙◌, arith, append-nil, append_assoc}
use Rattle.std.proofs.Math.ListN.{length-replicate}
use Rattle.std.proofs.lemmas.List.{map-append, map-id}
use Rattle.ipnet_blocks.specs.BitStrings.{begins}
use Rattle.least_table.specs.BestHops.{Of, AreMerged, AreBest}
use Rattle.least_table.specs.HopSets.{holds, meets, extra_route}
use Rattle.least_table.specs.InnerTrees.{LeastPlan, Leaf, Fork, Skip, AllHave, AreAbove, IsLeastPlan, OneOutside, beside, lone_route, plan_best, plan_routes, with_best}
use Rattle.least_table.specs.Tables.{IsLeastTable, half_of, inner_of, inside, within}
use Rattle.least_table.proofs.Makes.{Makes, Best-stay, Best-fork, empty_law, fork_made, made_nearest, stay_made}
use Rattle.least_table.proofs.Sets.{same_hop-refl, same_hop-true, one_holds, meets-true, meets-false}

-- ---- the routes of a block inside another

pub within_within : {K : Type 0} (b ds : List Bool) (t : List (List Bool × K)) → within b (within ds t) ≡ within (b ++ ds) t
within_within b ds [] = refl
within_within b ds (r ∷ t) = rw (within_within b ds t, append_assoc b ds r.0) refl

pub within-halves : {K : Type 0} (b : List Bool) (l r : List (List Bool × K)) → within b (inside false l ++ inside true r) ≡ within (b ++ false ∷ []) l ++ within (b ++ true ∷ []) r
within-halves b l r = map-append _ (inside false l) (inside true r) ∙ ap₂ (λ x y. x ++ y) (within_within b (false ∷ []) l) (within_within b (true ∷ []) r)

pub within-whole : {K : Type 0} (t : List (List Bool × K)) → within [] t ≡ t
within-whole = map-id

-- ---- sets of hops that are merged

meets_swap : (as' bs : List (Option ℕ)) → meets as' bs ≡ meets bs as'
meets_swap as' bs = grind (arith, meets-true as' bs, meets-true bs as', meets-false as' bs, meets-false bs as')

merged_swap : (as' bs cs : List (Option ℕ)) → AreMerged (Of as') (Of bs) (Of cs) → AreMerged (Of bs) (Of as') (Of cs)
merged_swap as' bs cs m j = grind (arith, m j, meets_swap as' bs)

-- one hop with a set that has it
pub merged_in : (k : Option ℕ) (hops : List (Option ℕ)) → holds hops k ≡ true → AreMerged (Of (k ∷ [])) (Of hops) (Of (k ∷ []))
merged_in k hops e j = grind (arith, same_hop-true j k)

-- ---- a table for each inherited hop

-- With m routes, and one more if the block inherits none of its best hops; there is none with fewer.
record AreLeast (w : ℕ) (h : List Bool → Option ℕ) (hops : List (Option ℕ)) (m : ℕ) (r : Option ℕ → List (List Bool × Option ℕ)) : Type 0 where
  best : AreBest w h [] (Of hops) m
  made : (s : Option ℕ) → Makes w h s [] (r s) (m + extra_route (holds hops s))

-- all addresses of the block have one hop
one_least : (w : ℕ) (h : List Bool → Option ℕ) (k : Option ℕ) → AllHave w h k → AreLeast w h (k ∷ []) 0 (lone_route k)
one_least w h k same = record {
  best = Best-stay w h [] tt k same (replicate w false) (length-replicate w false) refl;
  made = λ s. rw (one_holds k s) (stay_made w h [] tt k same (replicate w false) (length-replicate w false) refl s);
}

fork_least : (w : ℕ) (h : List Bool → Option ℕ) (as' bs cs : List (Option ℕ)) (m n : ℕ) (l r : Option ℕ → List (List Bool × Option ℕ)) → AreMerged (Of as') (Of bs) (Of cs) → AreLeast w (half_of false h) as' m l → AreLeast w (half_of true h) bs n r
    → AreLeast (suc w) h cs (m + n + extra_route (meets as' bs)) (with_best cs (λ i. inside false (l i) ++ inside true (r i)))
fork_least w h as' bs cs m n l r merged low high = record { best = best; made = fork_made w h [] tt refl (Of as') (Of bs) (Of cs) m n merged best.some l r low.made high.made }
  where
    best : AreBest (suc w) h [] (Of cs) (m + n + extra_route (meets as' bs))
    best = Best-fork w h [] tt refl (Of as') (Of bs) (Of cs) m n low.best high.best merged

-- all addresses of one half have one hop
beside_least : (b : Bool) (w : ℕ) (h : List Bool → Option ℕ) (k : Option ℕ) (below hops : List (Option ℕ)) (m : ℕ) (r : Option ℕ → List (List Bool × Option ℕ)) → AreMerged (Of (k ∷ [])) (Of below) (Of hops) → AreLeast w (half_of b h) below m r
    → AllHave w (half_of (not b) h) k → AreLeast (suc w) h hops (m + extra_route (holds below k)) (with_best hops (λ i. beside b k i (r i)))
beside_least true w h k below hops m r merged inner one =
    let cost : 0 + m + extra_route (meets (k ∷ []) below) ≡ m + extra_route (holds below k) = grind arith in
    rw cost at (fork_least w h (k ∷ []) below hops 0 m (lone_route k) r merged (one_least w (half_of false h) k one) inner)
beside_least false w h k below hops m r merged inner one =
    let cost : m + 0 + extra_route (meets below (k ∷ [])) ≡ m + extra_route (holds below k) = grind (arith, meets_swap below (k ∷ [])) in
    rw cost at (fork_least w h below (k ∷ []) hops m 0 r (lone_route k) (merged_swap (k ∷ []) below hops merged) inner (one_least w (half_of true h) k one))

-- ---- several levels

pub begins_other : (b : Bool) (ds x : List Bool) → begins (b ∷ ds) (not b ∷ x) ≡ false
begins_other b ds x = grind arith

-- best hops some levels above a smaller block
abbrev above : Option ℕ → List (Option ℕ) → List Bool → List (Option ℕ)
above k below [] = cond (holds below k) (k ∷ []) (k ∷ below)
above k below (c ∷ ds) = k ∷ []

are_above : (k : Option ℕ) (below : List (Option ℕ)) (ds : List Bool) → AreAbove k below ds (above k below ds) × (holds (above k below ds) k ≡ true)
are_above k below [] = ((λ j. grind (arith, same_hop-true j k)), grind (arith, same_hop-refl k))
are_above k below (c ∷ ds) = (refl, grind (arith, same_hop-refl k))

-- one best hop is all that the parts inherit
with_one : (k : Option ℕ) (p q : Option ℕ → List (List Bool × Option ℕ)) (s : Option ℕ) → p k ≡ q k → with_best (k ∷ []) p s ≡ with_best (k ∷ []) q s
with_one k p q s f = grind (arith, f, same_hop-true s k)

one_beside : (k : Option ℕ) (c : Bool) (ds : List Bool) (t : List (List Bool × Option ℕ)) → beside c k k (within ds t) ≡ within (c ∷ ds) t
one_beside k true ds t = rw (same_hop-refl k) (within_within (true ∷ []) ds t)
one_beside k false ds t = rw (same_hop-refl k) (append-nil (inside false (within ds t)) ∙ within_within (false ∷ []) ds t)

skip_least : (v : ℕ) (k : Option ℕ) (below : List (Option ℕ)) (m : ℕ) (r : Option ℕ → List (List Bool × Option ℕ)) (ds : List Bool) (b : Bool) (w : ℕ) (h : List Bool → Option ℕ) (hops : List (Option ℕ)) → w ≡ suc (length ds + v) → AreAbove k below ds hops
    → OneOutside w h (b ∷ ds) k → AreLeast v (inner_of (b ∷ ds) h) below m r → AreLeast w h hops (m + extra_route (holds below k)) (with_best hops (λ i. beside b k i (within ds (r i))))
skip_least v k below m r [] b w h hops e a one inner =
    let f : w ≡ suc v = omega (arith, e) in
    rw f (beside_least b v h k below hops m (λ i. within [] (r i)) a (record { best = inner.best; made = λ i. rw (within-whole (r i)) (inner.made i) }) (λ x l. one (not b ∷ x) (omega (arith, e, l)) (begins_other b [] x)))
skip_least v k below m r (c ∷ ds) b w h hops e a one inner =
    let u = suc (length ds + v) in
    let f : w ≡ suc u = omega (arith, e) in
    let S = above k below ds in
    let R : Option ℕ → List (List Bool × Option ℕ) = with_best S (λ i. beside c k i (within ds (r i))) in
    let at = are_above k below ds in
    let half : AreLeast u (half_of b h) S (m + extra_route (holds below k)) R = skip_least v k below m r ds c u (half_of b h) S refl at.0 (λ x l g. one (b ∷ x) (omega (arith, e, l)) (begins_half b (c ∷ ds) x ∙ g)) inner in
    let cost : m + extra_route (holds below k) + extra_route (holds S k) ≡ m + extra_route (holds below k) = rw at.1 (omega arith) in
    let whole = rw cost at (beside_least b u h k S (k ∷ []) (m + extra_route (holds below k)) R (merged_in k S at.1) half (λ x l. one (not b ∷ x) (omega (arith, e, l)) (begins_other b (c ∷ ds) x))) in
    let same : R k ≡ within (c ∷ ds) (r k) = rw at.1 (one_beside k c ds (r k)) in
    rw (f, a) (record { best = whole.best; made = λ s. rw (← with_one k (λ i. beside b k i (R i)) (λ i. beside b k i (within (c ∷ ds) (r i))) s (ap (λ t. beside b k k t) same)) (whole.made s) })
  where
    begins_half : (b : Bool) (a x : List Bool) → begins (b ∷ a) (b ∷ x) ≡ begins a x
    begins_half b a x = grind arith

-- how many routes the tree has if its block inherits a best hop
abbrev count : LeastPlan → ℕ
count (Leaf k) = 0
count (Fork hops l r) = count l + count r + extra_route (meets (plan_best l) (plan_best r))
count (Skip k hops b ds t) = count t + extra_route (holds (plan_best t) k)

tree_least : (w : ℕ) (h : List Bool → Option ℕ) (t : LeastPlan) → IsLeastPlan w h t → AreLeast w h (plan_best t) (count t) (plan_routes t)
tree_least w h (Leaf k) same = let l = one_least w h (Some k) same in record { best = l.best; made = λ s. rw (one_holds (Some k) s) (rw (one_holds (Some k) s) at (l.made s)) }
tree_least w h (Fork hops l r) plan = rw plan.1 (fork_least plan.0 h (plan_best l) (plan_best r) hops (count l) (count r) (plan_routes l) (plan_routes r) plan.2 (tree_least plan.0 (half_of false h) l plan.3) (tree_least plan.0 (half_of true h) r plan.4))
tree_least w h (Skip k hops b ds t) plan = skip_least plan.0 k (plan_best t) (count t) (plan_routes t) ds b w h hops plan.1 plan.2 plan.3 (tree_least plan.0 (inner_of (b ∷ ds) h) t plan.4)

pub plans_are_least : (w : ℕ) (h : List Bool → Option ℕ) (t : LeastPlan) → IsLeastPlan w h t → IsLeastTable w h (plan_routes t None)
plans_are_least w h t plan = let l = tree_least w h t plan in (empty_law w h (plan_routes t None)).1.1 (made_nearest w h None [] (plan_routes t None) (Of (plan_best t)) (count t) l.best (l.made None))
