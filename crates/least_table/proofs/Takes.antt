-- The steps of the plan of a block are taken: those of its halves, or of the smaller block, stand before its own.
use Rattle.std.proofs.Common.{◌≡◌, ℕ, suc, ◌+◌, ◌-◌, ◌<◌, ◌≤◌, Bool, true, false, cond, not, ◌&&◌, List, [], ◌∷◌, ◌++◌, length, map, Option, refl, sym, ap, ◌∙◌, arith, append_assoc, append-nil, length-append}
use Rattle.least_table.specs.BestHops.{Of, passed_on}
use Rattle.least_table.specs.HopSets.{is_same_hop, holds}
use Rattle.least_table.specs.InnerPacked.{AreWhole, stored_step, steps_in}
use Rattle.least_table.specs.InnerPlans.{EndsWithin, Stores}
use Rattle.least_table.specs.InnerSteps.{Step, cut_in, step_best, steps_of, top}
use Rattle.least_table.specs.InnerTrees.{LeastPlan, Leaf, Fork, Skip, beside, lone_route, plan_routes, with_best}
use Rattle.least_table.specs.Pieces.{strings}
use Rattle.least_table.specs.Tables.{half_of, inner_of, inside, within}
use Rattle.least_table.specs.declared.plan.Cut.TheVariants as cuts
use Rattle.least_table.specs.declared.plan.Packed.{Packed}
use Rattle.least_table.specs.declared.plan.Steps.{Steps}
use Rattle.least_table.proofs.LeastPlans.{within-halves, within_within}
use Rattle.least_table.proofs.Steps.{below, last_taken, left_of, left_whole, popped, top_last}

-- a plan has steps
pub never_empty : (xs : List Step) (p : LeastPlan) (s : Steps) → steps_in s ≡ xs ++ steps_of p → s.steps ≡ [] → ⊥
never_empty xs p s ends e = omega (arith, ap length (sym ends ∙ ap (map (stored_step s.sets)) e), length-append xs (steps_of p), ap length (top_last p).0, length-append (below p) (top p ∷ []))

pub half_length : (b q : List Bool) (c : Bool) → q ≡ b ++ c ∷ [] → length q ≡ suc (length b)
half_length b q c e = omega (arith, ap length e, length-append b (c ∷ []))

-- what a plan of the block b is whose last step cuts the block into halves, or into a smaller block
pub record Forked (w : ℕ) (b : List Bool) (xs : List Step) (p : LeastPlan) (left : Steps) : Type 0 where
  pub hops : List (Option ℕ)
  pub low : LeastPlan
  pub high : LeastPlan
  pub is : p ≡ Fork hops low high
  pub deep : length b < w
  pub above : (q : List Bool) → q ≡ b ++ true ∷ [] → EndsWithin (w - length q) (xs ++ steps_of low) high left
  pub below : (q : List Bool) (mid : Steps) → q ≡ b ++ false ∷ [] → steps_in mid ≡ xs ++ steps_of low → AreWhole mid → EndsWithin (w - length q) xs low mid

pub record Skipped (way : List Bool) (k : Option ℕ) (w : ℕ) (b : List Bool) (xs : List Step) (p : LeastPlan) (left : Steps) : Type 0 where
  pub hops : List (Option ℕ)
  pub half : Bool
  pub path : List Bool
  pub inner : LeastPlan
  pub is : p ≡ Skip k hops half path inner
  pub turns : way ≡ half ∷ path
  pub deep : (0 < length way) × (length b + length way ≤ w)
  pub ends : (q : List Bool) → q ≡ b ++ way → EndsWithin (w - length q) xs inner left

-- what the plan is by the step that is taken off
module _ (w : ℕ) (b : List Bool) (old : Steps) (rest : List Packed) (y : Packed) (e : old.steps ≡ rest ++ y ∷ []) (xs : List Step) where
  taken : (p : LeastPlan) → EndsWithin (w - length b) xs p old → (steps_in (left_of old rest) ≡ xs ++ below p) × (stored_step old.sets y ≡ top p)
  taken p ends = last_taken xs old (left_of old rest) (stored_step old.sets y) p (popped old rest y e) ends.steps

  pub best_taken : (p : LeastPlan) → EndsWithin (w - length b) xs p old → step_best (stored_step old.sets y) ≡ step_best (top p)
  best_taken p ends = ap step_best (taken p ends).1

  pub leaf_of : (p : LeastPlan) → EndsWithin (w - length b) xs p old → cut_in (stored_step old.sets y) ≡ cuts.Whole → (k : ℕ) × (p ≡ Leaf k) × (steps_in (left_of old rest) ≡ xs)
  leaf_of (Leaf k) ends s = (k, refl, (taken (Leaf k) ends).0 ∙ append-nil xs)
  leaf_of p ends s = let z = sym (ap cut_in (taken p ends).1) ∙ s in cc

  pub fork_of : (p : LeastPlan) → EndsWithin (w - length b) xs p old → cut_in (stored_step old.sets y) ≡ cuts.Halves → Forked w b xs p (left_of old rest)
  fork_of (Fork hops low high) ends s =
      let t = taken (Fork hops low high) ends in
      let room : (q : List Bool) (c : Bool) → q ≡ b ++ c ∷ [] → w - length q ≡ ends.plans.1.0 = λ q c f. omega (arith, half_length b q c f, ends.plans.1.1) in
      record {
        hops = hops;
        low = low;
        high = high;
        is = refl;
        deep = omega (arith, ends.plans.1.1);
        above = λ q f. rw (room q true f) (record { steps = t.0 ∙ sym (append_assoc xs (steps_of low) (steps_of high)); whole = (left_whole old rest y e ends.whole).0; plans = (half_of true ends.plans.0, ends.plans.1.4) });
        below = λ q mid f steps whole. rw (room q false f) (record { steps = steps; whole = whole; plans = (half_of false ends.plans.0, ends.plans.1.3) });
      }
  fork_of p ends s = let z = sym (ap cut_in (taken p ends).1) ∙ s in cc

  pub skip_of : (way : List Bool) (k : Option ℕ) (p : LeastPlan) → EndsWithin (w - length b) xs p old → cut_in (stored_step old.sets y) ≡ cuts.Around way k → Skipped way k w b xs p (left_of old rest)
  skip_of way k (Skip j hops c ds q) ends s =
      let t = taken (Skip j hops c ds q) ends in
      let z = sym (ap cut_in t.1) ∙ s in
      let turns : way ≡ c ∷ ds = cc in
      let room : (q : List Bool) → q ≡ b ++ way → w - length q ≡ ends.plans.1.0 = λ q f. omega (arith, ap length f, length-append b way, ap length turns, ends.plans.1.1) in
      record {
        hops = hops;
        half = c;
        path = ds;
        inner = q;
        is = cc;
        turns = turns;
        deep = (omega (arith, ap length turns), omega (arith, ap length turns, ends.plans.1.1));
        ends = λ q f. rw (room q f) (record { steps = t.0; whole = (left_whole old rest y e ends.whole).0; plans = (inner_of (c ∷ ds) ends.plans.0, ends.plans.1.4) });
      }
  skip_of way k p ends s = let z = sym (ap cut_in (taken p ends).1) ∙ s in cc

-- ---- the routes that are stored

module _ {B : Type 0} (string : B → List Bool) (b : List Bool) (s k : Option ℕ) (is_new : Bool) (w : ℕ) (xs : List Step) (p : LeastPlan) (x : Step) (left mid after old : Steps) (r0 r1 r2 r3 r4 : List (B × Option ℕ))
    (same : step_best x ≡ step_best (top p)) (e : k ≡ passed_on (Of (step_best x)) s) (f : is_new ≡ not (holds (step_best x) s)) (last : strings string r4 ≡ cond is_new ((b, k) ∷ []) [] ++ strings string r3) where
  -- those of the parts of the block, and then its own
  stored : (parts : Option ℕ → List (List Bool × Option ℕ)) → plan_routes p s ≡ with_best (step_best (top p)) parts s → strings string r3 ≡ within b (parts k) ++ strings string r0 → strings string r4 ≡ within b (plan_routes p s) ++ strings string r0
  stored parts i h = rw (i, ← same) (grind (arith, e, f, last, h, append-nil b))

  pub leaf_stores : (d : (j : ℕ) × (p ≡ Leaf j) × (steps_in left ≡ xs)) → AreWhole left → r3 ≡ r0 → Stores string b s xs p r0 r4 old left
  leaf_stores d whole none = record { steps = d.2; whole = whole; routes = stored (λ i. []) (rw d.1 refl) (ap (strings string) none) }

  pub fork_stores : (d : Forked w b xs p left) (q1 q0 : List Bool) → q1 ≡ b ++ true ∷ [] → q0 ≡ b ++ false ∷ [] → Stores string q1 k (xs ++ steps_of d.low) d.high r0 r1 left mid → Stores string q0 k xs d.low r1 r3 mid after → Stores string b s xs p r0 r4 old after
  fork_stores d q1 q0 g h above lower = record {
    steps = lower.steps;
    whole = lower.whole;
    routes = stored (λ i. inside false (plan_routes d.low i) ++ inside true (plan_routes d.high i)) (rw d.is refl)
        (grind (arith, lower.routes, above.routes, g, h, within-halves b (plan_routes d.low k) (plan_routes d.high k), append_assoc));
  }

  pub skip_stores : (way : List Bool) (j : Option ℕ) (d : Skipped way j w b xs p left) (is_upper u v : Bool) (q1 q0 q : List Bool) → is_upper ≡ d.half → u ≡ (not (is_same_hop k j) && not is_upper) → v ≡ (not (is_same_hop k j) && is_upper)
      → q1 ≡ b ++ true ∷ [] → q0 ≡ b ++ false ∷ [] → q ≡ b ++ way → strings string r1 ≡ cond u ((q1, j) ∷ []) [] ++ strings string r0 → Stores string q k xs d.inner r1 r2 left after → strings string r3 ≡ cond v ((q0, j) ∷ []) [] ++ strings string r2
      → Stores string b s xs p r0 r4 old after
  skip_stores way j d is_upper u v q1 q0 q half above below g h i upper inner lower =
      let t = within d.path (plan_routes d.inner k) in
      let way_is : within q (plan_routes d.inner k) ≡ within (b ++ d.half ∷ []) t = rw (i, d.turns, ← append_assoc b (d.half ∷ []) d.path) (sym (within_within (b ++ d.half ∷ []) d.path (plan_routes d.inner k))) in
      record {
        steps = inner.steps;
        whole = inner.whole;
        routes = stored (λ l. beside d.half j l (within d.path (plan_routes d.inner l))) (rw d.is refl)
            (beside_stored d.half t (rw half at above) (rw half at below) (rw way_is at inner.routes));
      }
    where
      -- before or after those of the smaller block that of the half beside it
      beside_stored : (half : Bool) (t : List (List Bool × Option ℕ)) → u ≡ (not (is_same_hop k j) && not half) → v ≡ (not (is_same_hop k j) && half) → strings string r2 ≡ within (b ++ half ∷ []) t ++ strings string r1 → strings string r3 ≡ within b (beside half j k t) ++ strings string r0
      beside_stored half t above below inner = grind (arith, above, below, upper, inner, lower, g, h, within-halves b (lone_route j k) t, within-halves b t (lone_route j k), append-nil, append_assoc)
