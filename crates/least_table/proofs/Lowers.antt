-- Plans of pieces: of a block by those of its halves, and lower halves that wait for their upper ones.
use Rattle.std.proofs.Common.{◌≡◌, ℕ, suc, ◌+◌, ◌-◌, ◌≤◌, ◌<◌, Bool, true, false, cond, not, List, [], ◌∷◌, ◌++◌, length, take, drop, reverse, slice_index_or, Option, None, is_some, refl, sym, ap, ◌∙◌, subst, arith, append-nil, append_assoc, add-one, Less, length-append}
use Rattle.std.proofs.lemmas.List.{drop-drop, drop_all, get_or-take, get_or_at, length-take-le, map-append, map-id, reverse-append, take-take, take_more}
use Rattle.std.proofs.lemmas.List.Elements.{All-append, All-cons, All-head, All-map, All-nil, All-tail, All-weaker}
use Rattle.ipnet_blocks.specs.BitStrings.{begins, bits_cmp}
use Rattle.ipnet_blocks.proofs.BitStrings.{take_begins}
use Rattle.least_table.specs.InnerPacked.{AreWhole, steps_in}
use Rattle.least_table.specs.InnerPieces.{AllShare, before, beyond, shared}
use Rattle.least_table.specs.InnerPlanners.{HasPlan, IsLower, AreLowers, ArePlanned, IsDeeper}
use Rattle.least_table.specs.InnerPlans.{EndsWithPlan, EndsWithin, IsHeld, IsPlanOf, JoinsHalves, OfHalf, Stores}
use Rattle.least_table.specs.InnerSteps.{Step, steps_of}
use Rattle.least_table.specs.InnerSteps as steps
use Rattle.least_table.specs.InnerTrees.{LeastPlan, IsLeastPlan, plan_routes}
use Rattle.least_table.specs.InnerTrees as trees
use Rattle.least_table.specs.Pieces.{AreDisjoint, piece_hop, strings}
use Rattle.least_table.specs.Tables.{half_of, inner_of}
use Rattle.least_table.specs.declared.plan.LowerPlan.{LowerPlan}
use Rattle.least_table.specs.declared.plan.Steps.{Steps}
use Rattle.least_table.specs.declared.planner.Lower.{Lower}
use Rattle.least_table.proofs.LeastPlans.{begins_other, within-whole}

-- ---- pieces that begin with the same bits

begins_parts : (u v s : List Bool) → begins (u ++ v) s ≡ true → (begins u s ≡ true) × (begins v (drop (length u) s) ≡ true)
begins_parts [] v s e = (refl, e)
begins_parts (true ∷ u) v (true ∷ s) e = begins_parts u v s e
begins_parts (false ∷ u) v (false ∷ s) e = begins_parts u v s e
begins_parts _ v s e = cc

share_parts : (u v : List Bool) (ps : List (List Bool × ℕ)) → AllShare (u ++ v) ps → AllShare u ps × AllShare v (beyond (length u) ps)
share_parts u v ps h = (
  All-weaker _ _ (λ p e. (begins_parts u v p.0 e).0) ps h,
  All-map (λ p. begins v p.0 ≡ true) (λ p. (drop (length u) p.0, p.1)) ps (All-weaker _ _ (λ p e. (begins_parts u v p.0 e).1) ps h),
)

-- the bits of a behind its first d bits
share_next : (a : List Bool) (d : ℕ) (ps : List (List Bool × ℕ)) → d < length a → AllShare (take (suc d) a) ps → AllShare (take d a) ps × AllShare (slice_index_or a d false ∷ []) (beyond d ps)
share_next a d ps l h =
    let long : length (take d a) ≡ d = length-take-le d a (omega (arith, l)) in
    rw long at (share_parts (take d a) (slice_index_or a d false ∷ []) ps (rw (← take_more a d false l, add-one) h))

-- no hop outside these bits, and inside those of the pieces without the bits
module _ (ds : List Bool) where
  none_outside : (ps : List (List Bool × ℕ)) → AllShare ds ps → (x : List Bool) → begins ds x ≡ false → piece_hop ps x ≡ None
  none_outside [] h x e = refl
  none_outside (p ∷ ps) h x e = rw (off ds p.0 x (All-head (λ p. begins ds p.0 ≡ true) p ps h) e) (none_outside ps (All-tail (λ p. begins ds p.0 ≡ true) p ps h) x e)
    where
      off : (ds q x : List Bool) → begins ds q ≡ true → begins ds x ≡ false → begins q x ≡ false
      off (true ∷ ds) (true ∷ q) (true ∷ x) e f = off ds q x e f
      off (false ∷ ds) (false ∷ q) (false ∷ x) e f = off ds q x e f
      off _ q x e f = cc

  hop_inside : (ps : List (List Bool × ℕ)) → AllShare ds ps → (x : List Bool) → piece_hop ps (ds ++ x) ≡ piece_hop (beyond (length ds) ps) x
  hop_inside [] h x = refl
  hop_inside (p ∷ ps) h x = rw (on ds p.0 (All-head (λ p. begins ds p.0 ≡ true) p ps h), hop_inside ps (All-tail (λ p. begins ds p.0 ≡ true) p ps h) x) refl
    where
      on : (ds q : List Bool) → begins ds q ≡ true → begins q (ds ++ x) ≡ begins (drop (length ds) q) x
      on [] q e = refl
      on (true ∷ ds) (true ∷ q) e = on ds q e
      on (false ∷ ds) (false ∷ q) e = on ds q e
      on _ q e = cc

half_hop : (b : Bool) (d : ℕ) (ps : List (List Bool × ℕ)) → AllShare (b ∷ []) (beyond d ps) → (x : List Bool) → (piece_hop (beyond d ps) (b ∷ x) ≡ piece_hop (beyond (suc d) ps) x) × (piece_hop (beyond d ps) (not b ∷ x) ≡ None)
half_hop b d ps h x = (hop_inside (b ∷ []) (beyond d ps) h x ∙ ap (λ qs. piece_hop qs x) (more ps), none_outside (b ∷ []) (beyond d ps) h (not b ∷ x) (begins_other b [] x))
  where
    more : (ps : List (List Bool × ℕ)) → beyond 1 (beyond d ps) ≡ beyond (suc d) ps
    more [] = refl
    more (p ∷ ps) = rw (drop-drop 1 d p.0, add-one, more ps) refl

-- ---- plans of blocks, by those of their halves

plan_same : (w : ℕ) (h g : List Bool → Option ℕ) (t : LeastPlan) → ((x : List Bool) → h x ≡ g x) → IsLeastPlan w g t → IsLeastPlan w h t
plan_same w h g (trees.Leaf k) e plan = λ x l. e x ∙ plan x l
plan_same w h g (trees.Fork hops l r) e plan =
    (plan.0, plan.1, plan.2, plan_same plan.0 (half_of false h) (half_of false g) l (λ x. e (false ∷ x)) plan.3, plan_same plan.0 (half_of true h) (half_of true g) r (λ x. e (true ∷ x)) plan.4)
plan_same w h g (trees.Skip k hops b ds t) e plan =
    (plan.0, plan.1, plan.2, (λ x l f. e x ∙ plan.3 x l f), plan_same plan.0 (inner_of (b ∷ ds) h) (inner_of (b ∷ ds) g) t (λ x. e ((b ∷ ds) ++ x)) plan.4)

module _ (w : ℕ) where
  -- a block has pieces in both halves
  halves_made : (d : ℕ) (ls rs : List (List Bool × ℕ)) (p q r : LeastPlan) → d < w → AllShare (false ∷ []) (beyond d ls) → AllShare (true ∷ []) (beyond d rs) → JoinsHalves p q r
      → IsLeastPlan (w - suc d) (piece_hop (beyond (suc d) ls)) p → IsLeastPlan (w - suc d) (piece_hop (beyond (suc d) rs)) q → IsLeastPlan (w - d) (piece_hop (beyond d (ls ++ rs))) r
  halves_made d ls rs p q r i f g of_halves l h =
      let more : suc (w - suc d) ≡ w - d = omega (arith, i) in
      rw more at (of_halves (w - suc d) (piece_hop (beyond d (ls ++ rs))) (plan_same _ _ _ p (λ x. joined (false ∷ x) ∙ low x) l) (plan_same _ _ _ q (λ x. joined (true ∷ x) ∙ high x) h))
    where
      append : (ps qs : List (List Bool × ℕ)) (x : List Bool) → piece_hop (ps ++ qs) x ≡ cond (is_some (piece_hop ps x)) (piece_hop ps x) (piece_hop qs x)
      append [] qs x = refl
      append (p ∷ ps) qs x = grind (arith, append ps qs x)

      joined : (x : List Bool) → piece_hop (beyond d (ls ++ rs)) x ≡ cond (is_some (piece_hop (beyond d ls) x)) (piece_hop (beyond d ls) x) (piece_hop (beyond d rs) x)
      joined x = rw (map-append {B = List Bool × ℕ} (λ p. (drop d p.0, p.1)) ls rs) (append (beyond d ls) (beyond d rs) x)

      low : (x : List Bool) → cond (is_some (piece_hop (beyond d ls) (false ∷ x))) (piece_hop (beyond d ls) (false ∷ x)) (piece_hop (beyond d rs) (false ∷ x)) ≡ piece_hop (beyond (suc d) ls) x
      low x = grind (arith, (half_hop false d ls f x).0, (half_hop true d rs g x).1)

      high : (x : List Bool) → cond (is_some (piece_hop (beyond d ls) (true ∷ x))) (piece_hop (beyond d ls) (true ∷ x)) (piece_hop (beyond d rs) (true ∷ x)) ≡ piece_hop (beyond (suc d) rs) x
      high x = grind (arith, (half_hop false d ls f x).1, (half_hop true d rs g x).0)

  -- or in one of them
  pub ascended : (a : List Bool) (to from : ℕ) (ps : List (List Bool × ℕ)) (xs : List Step) (old new : Steps) → length a ≤ w → from ≡ suc to → from ≤ length a
      → (h : HasPlan w a from ps xs old) → (r : LeastPlan) → OfHalf (slice_index_or a to false) None h.plan r → EndsWithPlan xs r new → HasPlan w a to ps xs new
  ascended a to from ps xs old new inside e l h r of_half ends =
      let upper = slice_index_or a to false in
      let share = share_next a to ps (omega (arith, e, l)) (rw e at h.is.inside) in
      let more : suc (w - suc to) ≡ w - to = omega (arith, e, l, inside) in
      let plans = rw e at h.is.plans in
      record {
        plan = r;
        ends = ends;
        is = record {
          plans = rw more at (of_half (w - suc to) (piece_hop (beyond to ps)) (plan_same _ _ _ h.plan (λ x. (half_hop upper to ps share.1 x).0) plans) (λ x m. (half_hop upper to ps share.1 x).1));
          inside = share.0;
        };
      }

  -- a lower half is joined with the upper one
  pub joined : (a : List Bool) (o : Lower) (ps qs : List (List Bool × ℕ)) (xs : List Step) (mid new : Steps) (l : IsLower w (take o.depth a) o ps xs) (h : HasPlan w a (o.depth + 1) qs xs mid) → slice_index_or a o.depth false ≡ true → o.depth < length a → length a ≤ w
      → (r : LeastPlan) → JoinsHalves l.plan h.plan r → EndsWithPlan l.before r new → HasPlan w a o.depth (l.pieces ++ qs) l.before new
  joined a o ps qs xs mid new l h upper inside fit r of_halves ends =
      let long : length (take o.depth a) ≡ o.depth = length-take-le o.depth a (omega (arith, inside)) in
      let low = rw long at (share_parts (take o.depth a) (false ∷ []) l.pieces l.is.inside) in
      let high = rw upper at (share_next a o.depth qs inside (rw add-one at h.is.inside)) in
      let plans = rw add-one at h.is.plans in
      record {
        plan = r;
        ends = ends;
        is = record { plans = halves_made o.depth l.pieces qs l.plan h.plan r (omega (arith, inside, fit)) low.1 high.1 of_halves l.is.plans plans; inside = All-append (λ p. begins (take o.depth a) p.0 ≡ true) l.pieces qs low.0 high.0 };
      }

  -- ---- the lower halves

  pub fewer : (d e : ℕ) (os : List Lower) (a : List Bool) (ps : List (List Bool × ℕ)) (xs : List Step) → AreLowers w os a d ps xs → IsDeeper e os → AreLowers w os a e ps xs
  fewer d e [] a ps xs h i = h
  fewer d e (o ∷ os) a ps xs h i = (i, h.1, h.2, h.3)

  -- the innermost one, and the others
  pub opened : (a : List Bool) (d e : ℕ) (ps : List (List Bool × ℕ)) (all front : List Lower) (o : Lower) (s : Steps) (h : ArePlanned w a d e ps all s) → all ≡ front ++ o ∷ [] → AreLowers w (o ∷ reverse front) a e h.others h.before
  opened a d e ps all front o s h i = subst (λ us. AreLowers w us a e h.others h.before) (ap reverse i ∙ reverse-append front (o ∷ [])) h.lower

  -- those of one string are those of another with the same first bits
  of_other : (d n : ℕ) (os : List Lower) (a z : List Bool) (ps : List (List Bool × ℕ)) (xs : List Step) → d ≤ n → take n a ≡ take n z → AreLowers w os a d ps xs → AreLowers w os z d ps xs
  of_other d n [] a z ps xs l e h = h
  of_other d n (o ∷ os) a z ps xs l e h =
      let i : o.depth < n = omega (arith, l, h.0) in
      let bit : slice_index_or z o.depth false ≡ true = sym (get_or-take n z o.depth false i) ∙ ap (λ u. slice_index_or u o.depth false) (sym e) ∙ get_or-take n a o.depth false i ∙ h.1 in
      let front : take o.depth a ≡ take o.depth z = sym (take-take o.depth n a (omega (arith, i))) ∙ ap (take o.depth) e ∙ take-take o.depth n z (omega (arith, i)) in
      let r = subst (λ b. (l : IsLower w b o ps xs) × AreLowers w os z o.depth l.others l.before) front (h.2, of_other o.depth n os a z h.2.others h.2.before (omega (arith, i)) e h.3) in
      (h.0, bit, r.0, r.1)

  -- none is that of a block whose upper half has not the string
  not_here : (n : ℕ) (os : List Lower) (a : List Bool) (ps : List (List Bool × ℕ)) (xs : List Step) → slice_index_or a n false ≡ false → AreLowers w os a (n + 1) ps xs → AreLowers w os a n ps xs
  not_here n [] a ps xs e h = h
  not_here n (o ∷ os) a ps xs e h = let other : o.depth ≡ n → ⊥ = λ i. let z = sym (ap (λ m. slice_index_or a m false) i ∙ e) ∙ h.1 in cc in (omega (arith, other, h.0), h.1, h.2, h.3)

-- ---- where two strings part

pub record Parts (a z : List Bool) (n : ℕ) : Type 0 where
  pub short : n < length a
  pub other : n < length z
  pub same : take n a ≡ take n z
  pub next : take (suc n) a ≡ take n z ++ false ∷ []
  pub low : slice_index_or a n false ≡ false
  pub high : slice_index_or z n false ≡ true

pub parts : (a z : List Bool) → before a z ≡ true → Parts a z (shared a z)
parts (false ∷ a) (true ∷ z) e = record { short = omega arith; other = omega arith; same = refl; next = refl; low = refl; high = refl }
parts (true ∷ a) (true ∷ z) e = let h = parts a z e in record { short = omega (arith, h.short); other = omega (arith, h.other); same = cc h.same; next = cc h.next; low = h.low; high = h.high }
parts (false ∷ a) (false ∷ z) e = let h = parts a z e in record { short = omega (arith, h.short); other = omega (arith, h.other); same = cc h.same; next = cc h.next; low = h.low; high = h.high }
parts _ z e = cc

-- the last piece comes before the next one
pub last_before : (ps : List (List Bool × ℕ)) (p q : List Bool × ℕ) → AreDisjoint ((ps ++ p ∷ []) ++ q ∷ []) → before p.0 q.0 ≡ true
last_before ps p q h =
    let all : (ps ++ p ∷ []) ++ q ∷ [] ≡ ps ++ p ∷ q ∷ [] = append_assoc ps (p ∷ []) (q ∷ []) in
    let r = (rw all at h) (length ps) (suc (length ps)) p (omega arith) (omega (arith, length-append ps (p ∷ q ∷ []))) in
    let s = rw (get_or_at ps p (q ∷ []) p (length ps) refl, ← all, get_or_at (ps ++ p ∷ []) q [] p (suc (length ps)) (omega (arith, length-append ps (p ∷ [])))) at r in
    before_by p.0 q.0 s.0 s.1
  where
    before_by : (a b : List Bool) → bits_cmp a b ≡ Less → begins a b ≡ false → before a b ≡ true
    before_by (false ∷ a) (false ∷ b) e f = before_by a b e f
    before_by (true ∷ a) (true ∷ b) e f = before_by a b e f
    before_by (false ∷ a) (true ∷ b) e f = refl
    before_by _ b e f = cc

module _ (w : ℕ) where
  -- the one that the last piece lies in, where the next one lies in the upper half
  pub turned : (a z : List Bool) (n : ℕ) (os : List Lower) (ps : List (List Bool × ℕ)) (s t : Steps) (held : LowerPlan) → Parts a z n → (h : ArePlanned w a (n + 1) (n + 1) ps os s) → IsHeld held h.plans.plan h.before (steps_in t)
      → AreLowers w (reverse (os ++ record { depth = n; planned = held } ∷ [])) z (length z) ps (steps_in t)
  turned a z n os ps s t held p h i = subst (λ us. AreLowers w us z (length z) ps (steps_in t)) (sym (reverse-append os (record { depth = n; planned = held } ∷ []))) (
    p.other,
    p.high,
    record {
      plan = h.plans.plan;
      pieces = h.pieces;
      others = h.others;
      before = h.before;
      all = h.all;
      held = i;
      rising = h.plans.ends.rising;
      is = subst (λ u. IsPlanOf w (suc n) u h.pieces h.plans.plan) p.next (subst (λ m. IsPlanOf w m (take m a) h.pieces h.plans.plan) (add-one n) h.plans.is);
    },
    of_other w n n (reverse os) a z h.others h.before (omega arith) p.same (not_here w n (reverse os) a h.others h.before p.low h.lower),
  )

  -- a piece is added: all addresses of its block have its hop
  pub piece_planned : (z : List Bool) (hop : ℕ) (xs : List Step) (new : Steps) → steps_in new ≡ xs ++ steps.Whole hop ∷ [] → AreWhole new → HasPlan w z (length z) ((z, hop) ∷ []) xs new
  piece_planned z hop xs new e whole = record {
    plan = trees.Leaf hop;
    ends = record { steps = e; whole = whole; rising = (tt, tt) };
    is = record { plans = λ x l. rw (drop_all (length z) z (omega arith)) refl; inside = All-cons (λ p. begins (take (length z) z) p.0 ≡ true) (z, hop) [] (take_begins (length z) z) (All-nil _) };
  }

  -- the plan of all addresses
  pub whole_plan : (a : List Bool) (ps : List (List Bool × ℕ)) (os : List Lower) (s : Steps) → ArePlanned w a 0 0 ps os s → (p : LeastPlan) × IsLeastPlan w (piece_hop ps) p × EndsWithin w [] p s
  whole_plan a ps os s h = go (reverse os) h.lower
    where
      go : (us : List Lower) → AreLowers w us a 0 h.others h.before → (p : LeastPlan) × IsLeastPlan w (piece_hop ps) p × EndsWithin w [] p s
      go (o ∷ us) l = absurd (omega (arith, l.0))
      go [] l =
          let all : h.pieces ≡ ps = sym (h.all ∙ ap (λ t. t ++ h.pieces) l.0) in
          let z : w - 0 ≡ w = omega arith in
          let made = rw (z, map-id h.pieces, all) at h.plans.is.plans in
          (h.plans.plan, made, record { steps = h.plans.ends.steps ∙ ap (λ t. t ++ steps_of h.plans.plan) l.1; whole = h.plans.ends.whole; plans = (piece_hop ps, made) })

-- its routes are those that it stores, and no others
pub whole_routes : {B : Type 0} (string : B → List Bool) (q : List Bool) (p : LeastPlan) (old new : List (B × Option ℕ)) (before after : Steps) → q ≡ [] → old ≡ [] → Stores string q None [] p old new before after → strings string new ≡ plan_routes p None
whole_routes string q p old new before after e f h = h.routes ∙ rw (e, f, append-nil, within-whole) refl
