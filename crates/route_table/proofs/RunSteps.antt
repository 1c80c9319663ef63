-- What one change makes of the runs that are left.
use Rattle.std.proofs.Common.{◌≡◌, ℕ, suc, ◌+◌, ◌-◌, ◌*◌, ◌<◌, ◌≤◌, Bool, true, false, cond, List, [], ◌∷◌, ◌++◌, length, map, Option, Some, None, refl, sym, ap, ◌∙◌, subst, length-append, slice_get, arith}
use Rattle.std.proofs.lemmas.Bool.Decides.{nat_tests}
use Rattle.ipnet_blocks.specs.declared.aggregate.Span.{Span}
use Rattle.route_table.specs.InnerRouteSpans.{RouteSpan, Run}
use Rattle.route_table.specs.declared.runs.Runs.{Runs}
use Rattle.route_table.specs.declared.runs.Step.TheVariants as step
use Rattle.route_table.specs.InnerRunning.{route_span_of, topmost, coming, innermost, over, from_on, hops_left, ArePlaced, IsAtHand, AreRuns, IsFirstRun, gap, changes_left, StepsRun, joined, step_of}
use Rattle.route_table.proofs.PaintedRuns.{IsSpanOf, EndsBefore, Ends, joins, run_alone}
use Rattle.route_table.proofs.Openings.{comes, room, opened_are, opened_here, approached_are, approached}

-- the innermost of the stack
pub inner_at : (k : ℕ × Option ℕ) (rs : List RouteSpan) (t : RouteSpan) → Some t ≡ slice_get rs (length rs - 1) → (t.last, t.number) ≡ innermost k rs
inner_at k [] t e = absurd (cc)
inner_at k (r ∷ []) t e = let f : t ≡ r = cc in ap (λ (s : RouteSpan). (s.last, s.number)) f
inner_at k (r ∷ s ∷ rs) t e =
    let l : length (r ∷ s ∷ rs) - 1 ≡ suc (length (s ∷ rs) - 1) = omega arith in
    inner_at (r.last, r.number) (s ∷ rs) t (e ∙ ap (slice_get (r ∷ s ∷ rs)) l)

-- ---- a change, with the run at hand

pub hand_from : (o : Option Run) (d : Bool) (at end n : ℕ) → cond d (end + 1) at ≡ n → EndsBefore o n → IsAtHand o d at end
hand_from None d at end n e h = tt
hand_from (Some r) d at end n e h = (h.0, h.1 ∙ sym e)

pub ends_from_hand : (o : Option Run) (d : Bool) (at end n : ℕ) → cond d (end + 1) at ≡ n → IsAtHand o d at end → EndsBefore o n
ends_from_hand None d at end n e h = tt
ends_from_hand (Some r) d at end n e h = (h.0, h.1 ∙ e)

steps_from : {P R : Type 0} (w v : Runs P R) (o : Option Run) (end : ℕ) → Ends (hops_left w) o (hops_left v) end → end ≤ w.end → changes_left v < changes_left w → StepsRun w (step_of o) v
steps_from w v None end h l c = (h, c)
steps_from w v (Some r) end h l c = (h.0, omega (arith, h.1))

-- the routes and the hops before and after it
module _ {P R : Type 0} (w v : Runs P R) (a : AreRuns w) (placed : ArePlaced v.stack.items (coming v.next v.rest) v.at v.end) (fewer : changes_left v < changes_left w)
    (h later : ℕ → Option ℕ) (before : hops_left w ≡ (λ x. over w.run (h x) x)) (after : hops_left v ≡ (λ x. over v.run (later x) x)) where
  -- no number is passed
  pub stayed : ((x : ℕ) → h x ≡ later x) → v.run ≡ w.run → cond v.done (v.end + 1) v.at ≡ cond w.done (w.end + 1) w.at → AreRuns v × StepsRun w step.Passed v
  stayed same run place = (
    record { placed = placed; hand = hand_from v.run v.done v.at v.end (cond w.done (w.end + 1) w.at) place (rw run (ends_from_hand w.run w.done w.at w.end _ refl a.hand)) },
    (λ x. ap (λ g. g x) before ∙ (λ i. over (sym run i) (same x i) x) ∙ sym (ap (λ g. g x) after), fewer),
  )

  -- the numbers of a span are passed
  pub turned : (s : Span) (k : Option ℕ) → IsSpanOf s k h later → cond w.done (w.end + 1) w.at ≡ s.first → cond v.done (v.end + 1) v.at ≡ s.last + 1 → v.run ≡ (joined w.run s k).1 → s.last ≤ w.end
      → AreRuns v × StepsRun w (step_of (joined w.run s k).0) v
  turned s k is from to run l =
      let j = joins s h later w.run k is (ends_from_hand w.run w.done w.at w.end s.first from a.hand) in
      let hops : hops_left v ≡ (λ x. over (joined w.run s k).1 (later x) x) = after ∙ (λ t x. over (run t) (later x) x) in (
        record { placed = placed; hand = hand_from v.run v.done v.at v.end (s.last + 1) to (subst (λ (o : Option Run). EndsBefore o (s.last + 1)) (sym run) j.1) },
        steps_from w v (joined w.run s k).0 s.last (rw (before, hops) j.0) l fewer,
      )

-- what is left, with other names for the parts
pub hops_are : {P R : Type 0} (v : Runs P R) (d : Bool) (at : ℕ) (stack cs : List RouteSpan) → v.done ≡ d → v.at ≡ at → v.stack.items ≡ stack → coming v.next v.rest ≡ cs → hops_left v ≡ (λ x. over v.run (from_on d at (topmost None (stack ++ cs)) x) x)
hops_are v d at stack cs e f g h = λ i x. over v.run (from_on (e i) (f i) (topmost None (g i ++ h i)) x) x

pub placed_as : {P R : Type 0} (v : Runs P R) (at end : ℕ) (stack cs : List RouteSpan) → v.at ≡ at → v.end ≡ end → v.stack.items ≡ stack → coming v.next v.rest ≡ cs → ArePlaced stack cs at end → ArePlaced v.stack.items (coming v.next v.rest) v.at v.end
placed_as v at end stack cs e f g h p = rw (e, f, g, h) p

pub changes_as : {P R : Type 0} (v : Runs P R) (d : Bool) (stack cs : List RouteSpan) → v.done ≡ d → v.stack.items ≡ stack → coming v.next v.rest ≡ cs → changes_left v ≡ 4 * length cs + 2 * length stack + cond d 0 2 + gap v.at v.next
changes_as v d stack cs e f g = λ i. 4 * length (g i) + 2 * length (f i) + cond (e i) 0 2 + gap v.at v.next

pub gap_few : (at : ℕ) (n : Option RouteSpan) → gap at n ≤ 1
gap_few at None = omega arith
gap_few at (Some r) = grind (arith, nat_tests)

-- ---- the next route

module _ {P R : Type 0} (w : Runs P R) (a : AreRuns w) (r : RouteSpan) (next : w.next ≡ Some r) where
  abbrev cs : List RouteSpan
  cs = map route_span_of w.rest

  pub now_comes : coming w.next w.rest ≡ r ∷ cs
  now_comes = ap (λ o. coming o w.rest) next

  pub placed : ArePlaced w.stack.items (r ∷ cs) w.at w.end
  placed = subst (λ rs. ArePlaced w.stack.items rs w.at w.end) now_comes a.placed

  -- there is room for it
  pub begin_room : r.first ≤ (innermost (w.end, None) w.stack.items).0 → length w.stack.items < 129
  begin_room by = room w.stack.items r cs w.at w.end placed (innermost (w.end, None) w.stack.items).0 (innermost (w.end, None) w.stack.items).1 refl by

  -- it begins at the place or after it, and has a number
  pub begins_from : (w.at ≤ r.first) × (r.first ≤ r.last)
  begins_from = let c = comes placed in (c.later, c.some)

  module _ (v : Runs P R) (going : w.done ≡ false) (number : Option ℕ) (is : number ≡ (innermost (w.end, None) w.stack.items).1) (by : r.first ≤ (innermost (w.end, None) w.stack.items).0) (end : v.end ≡ w.end) (at : v.at ≡ r.first) (still : v.done ≡ w.done) where
    inner : ((innermost (w.end, None) w.stack.items).0, number) ≡ innermost (w.end, None) w.stack.items
    inner i = ((innermost (w.end, None) w.stack.items).0, is i)

    hops_before : hops_left w ≡ (λ x. over w.run (from_on false w.at (topmost None (w.stack.items ++ r ∷ cs)) x) x)
    hops_before = hops_are w false w.at w.stack.items (r ∷ cs) going refl refl now_comes

    place_before : cond w.done (w.end + 1) w.at ≡ w.at
    place_before = ap (λ d. cond d (w.end + 1) w.at) going

    place_then : cond v.done (v.end + 1) v.at ≡ r.first
    place_then = ap (λ d. cond d (v.end + 1) v.at) (still ∙ going) ∙ at

    -- the numbers before it are passed
    module _ (stays : v.stack.items ≡ w.stack.items) (same : v.next ≡ w.next) (rest : v.rest ≡ w.rest) (later : w.at < r.first) where
      then_comes : coming v.next v.rest ≡ r ∷ cs
      then_comes = (λ i. coming (same i) (rest i)) ∙ now_comes

      fewer_between : changes_left v < changes_left w
      fewer_between =
          let p = changes_as w false w.stack.items (r ∷ cs) going refl now_comes in
          let q = changes_as v false w.stack.items (r ∷ cs) (still ∙ going) stays then_comes in
          let g : gap w.at w.next ≡ 1 = rw next (grind (arith, nat_tests)) in
          let h : gap v.at v.next ≡ 0 = rw (same, next, at) (grind (arith, nat_tests)) in
          omega (arith, p, q, g, h)

      pub approaches : v.run ≡ (joined w.run (record { first = w.at; last = r.first - 1 }) number).1 → AreRuns v × StepsRun w (step_of (joined w.run (record { first = w.at; last = r.first - 1 }) number).0) v
      approaches run =
          let c = comes placed in
          let e : r.first ≡ r.first - 1 + 1 = omega arith in
          turned w v a (placed_as v r.first w.end w.stack.items (r ∷ cs) at end stays then_comes (approached_are w.stack.items r cs w.at w.end placed _ number inner by)) fewer_between _ _
          hops_before (hops_are v false r.first w.stack.items (r ∷ cs) (still ∙ going) at stays then_comes)
          (record { first = w.at; last = r.first - 1 }) number (approached w.stack.items r cs w.at w.end placed _ number inner by later) place_before (place_then ∙ e) run (omega (arith, c.some, c.fits))

    -- it opens
    module _ (pushed : v.stack.items ≡ w.stack.items ++ r ∷ []) (left : coming v.next v.rest ≡ cs) where
      fewer : changes_left v < changes_left w
      fewer =
          let p = changes_as w false w.stack.items (r ∷ cs) going refl now_comes in
          let q = changes_as v false (w.stack.items ++ r ∷ []) cs (still ∙ going) pushed left in
          omega (arith, p, q, gap_few v.at v.next, length-append w.stack.items (r ∷ []))

      pub begun_here : w.at ≡ r.first → v.run ≡ w.run → AreRuns v × StepsRun w step.Passed v
      begun_here e run = stayed w v a (placed_as v r.first w.end (w.stack.items ++ r ∷ []) cs at end pushed left (opened_are w.stack.items r cs w.at w.end placed _ number inner by)) fewer _ _
          hops_before (hops_are v false r.first (w.stack.items ++ r ∷ []) cs (still ∙ going) at pushed left)
          (opened_here w.stack.items r cs w.at w.end placed _ number inner by e) run (place_then ∙ sym (place_before ∙ e))

-- ---- the family is done

pub finish_run : {P R : Type 0} (w v : Runs P R) → AreRuns w → w.done ≡ true → v.done ≡ true → (r : Run) → w.run ≡ Some r → v.run ≡ None → IsFirstRun (hops_left w) r (hops_left v) × (r.span.last ≤ w.end)
finish_run w v a done done' r e f =
    let h : hops_left w ≡ (λ x. over (Some r) None x) = λ i x. over (e i) (from_on (done i) w.at (topmost None (w.stack.items ++ coming w.next w.rest)) x) x in
    let g : hops_left v ≡ (λ x. None) = λ i x. over (f i) (from_on (done' i) v.at (topmost None (v.stack.items ++ coming v.next v.rest)) x) x in
    let hand : IsAtHand (Some r) true w.at w.end = subst (λ o. IsAtHand o true w.at w.end) e (subst (λ d. IsAtHand w.run d w.at w.end) done a.hand) in
    (rw (h, g) (run_alone r hand.0), omega (arith, hand.1))

pub finish_none : {P R : Type 0} (w : Runs P R) → w.done ≡ true → w.run ≡ None → (x : ℕ) → hops_left w x ≡ None
finish_none w done e x = λ i. over (e i) (from_on (done i) w.at (topmost None (w.stack.items ++ coming w.next w.rest)) x) x

-- ---- changes that ended no run, and then one that did

pub given_later : {P R : Type 0} (w u v : Runs P R) (r : Run) → ((x : ℕ) → hops_left w x ≡ hops_left u x) → u.end ≡ w.end → IsFirstRun (hops_left u) r (hops_left v) × (r.span.last ≤ u.end)
    → IsFirstRun (hops_left w) r (hops_left v) × (r.span.last ≤ w.end)
given_later w u v r same end is = (subst (λ h. IsFirstRun h r (hops_left v)) (λ i x. sym (same x) i) is.0, omega (arith, is.1))

pub passed_then : {P R : Type 0} (w u v : Runs P R) (o : Option Run) → StepsRun w step.Passed u → u.end ≡ w.end → StepsRun u (step_of o) v → StepsRun w (step_of o) v
passed_then w u v None p end s = (λ x. p.0 x ∙ s.0 x, omega (arith, p.1, s.1))
passed_then w u v (Some r) p end s = given_later w u v r p.0 end s
