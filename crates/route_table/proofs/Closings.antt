-- What is left of the runs once the innermost route closes, or the family.
use Rattle.std.proofs.Common.{◌≡◌, ℕ, ◌+◌, ◌-◌, ◌<◌, ◌≤◌, ◌⊎◌, inl, inr, ⊎_elim, Bool, true, false, cond, nat_lt, All, List, [], ◌∷◌, ◌++◌, length, take, map, Option, Some, None, refl, sym, ap, ◌∙◌, subst, length-append, MatchOption, arith}
use Rattle.std.proofs.lemmas.Bool.Decides.{nat_tests}
use Rattle.std.proofs.lemmas.List.Elements.{All-nil, All-cons}
use Rattle.route_laws.specs.Tables.{Route}
use Rattle.route_table.specs.InnerRouteSpans.{RouteSpan}
use Rattle.route_table.specs.declared.runs.Runs.{Runs}
use Rattle.route_table.specs.declared.runs.Step.TheVariants as step
use Rattle.route_table.specs.InnerRunning.{route_span_of, topmost, coming, innermost, over, from_on, hops_left, ArePlaced, AreRuns, changes_left, StepsRun, IsPast, joined, step_of}
use Rattle.route_table.proofs.PaintedRuns.{IsSpanOf}
use Rattle.route_table.proofs.Openings.{last_of, popped, inner_pushed, in_turn, ends_within, ends_from, closed_are, closed_here, closed_later, family_closes}
use Rattle.route_table.proofs.RunSteps.{stayed, turned, hops_are, placed_as, changes_as, gap_few}

far_from : (n : Option RouteSpan) (rs : List Route) {stack : List RouteSpan} {at end : ℕ} (last : ℕ) → ArePlaced stack (coming n rs) at end → MatchOption n (Unit {0}) (λ r. last < r.first) → All (λ r. last < r.first) (coming n rs)
far_from None rs last p h = All-nil (λ r. last < r.first)
far_from (Some s) rs last p h = All-cons (λ r. last < r.first) s (map route_span_of rs) h (λ i d j. omega (arith, h, in_turn p i d j))

-- what a test of two numbers says
by_test : {X Y : Type 0} (m n : ℕ) → cond (nat_lt m n) X Y → ((m < n) × X) ⊎ ((n ≤ m) × Y)
by_test {X} {Y} m n = go (nat_lt m n) refl
  where
    go : (b : Bool) → nat_lt m n ≡ b → cond b X Y → ((m < n) × X) ⊎ ((n ≤ m) × Y)
    go true e x = inl (grind (arith, nat_tests, e), x)
    go false e y = inr (grind (arith, nat_tests, e), y)

-- a span, with other names for its end and its number
span_as : {a b c : ℕ} {j k : Option ℕ} {h later : ℕ → Option ℕ} → IsSpanOf (record { first = a; last = b }) j h later → b ≡ c → j ≡ k → IsSpanOf (record { first = a; last = c }) k h later
span_as is e f = rw (← e, ← f) is

module _ {P R : Type 0} (w v : Runs P R) (a : AreRuns w) (going : w.done ≡ false) (last : ℕ) (number : Option ℕ) (inner : (last, number) ≡ innermost (w.end, None) w.stack.items)
    (apart : MatchOption w.next (Unit {0}) (λ r. last < r.first))
    (end : v.end ≡ w.end) (next : v.next ≡ w.next) (rest : v.rest ≡ w.rest) where
  abbrev cs : List RouteSpan
  cs = coming w.next w.rest

  far : All (λ r. last < r.first) cs
  far = far_from w.next w.rest last a.placed apart

  left : coming v.next v.rest ≡ cs
  left i = coming (next i) (rest i)

  place_before : cond w.done (w.end + 1) w.at ≡ w.at
  place_before = ap (λ d. cond d (w.end + 1) w.at) going

  -- a route closes
  module _ (still : v.done ≡ w.done) (at : v.at ≡ last + 1) (taken : v.stack.items ≡ take (length w.stack.items - 1) w.stack.items) (os : List RouteSpan) (t : RouteSpan) (split : w.stack.items ≡ os ++ t ∷ []) (l : last < w.end) where
    top : ◌≡◌ {A = ℕ × Option ℕ} (last, number) (t.last, t.number)
    top = inner ∙ ap (innermost (w.end, None)) split ∙ inner_pushed (w.end, None) os t

    top_last : t.last ≡ last
    top_last i = (sym top i).0

    stack_then : v.stack.items ≡ os
    stack_then = popped w.stack.items v.stack.items os t split taken

    placed : ArePlaced (os ++ t ∷ []) cs w.at w.end
    placed = subst (λ rs. ArePlaced rs cs w.at w.end) split a.placed

    far' : All (λ r. t.last < r.first) cs
    far' = far_from w.next w.rest t.last placed (rw top_last apart)

    placed_then : ArePlaced v.stack.items (coming v.next v.rest) v.at v.end
    placed_then = placed_as v (t.last + 1) w.end os cs (omega (arith, at, top_last)) end stack_then left (closed_are os t cs w.at w.end placed far' (omega (arith, top_last)))

    hops_held : hops_left w ≡ (λ x. over w.run (from_on false w.at (topmost None ((os ++ t ∷ []) ++ cs)) x) x)
    hops_held = hops_are w false w.at (os ++ t ∷ []) cs going refl split refl

    hops_then : hops_left v ≡ (λ x. over v.run (from_on false (t.last + 1) (topmost None (os ++ cs)) x) x)
    hops_then = hops_are v false (t.last + 1) os cs (still ∙ going) (omega (arith, at, top_last)) stack_then left

    fewer : changes_left v < changes_left w
    fewer =
        let p = changes_as w false (os ++ t ∷ []) cs going split refl in
        let q = changes_as v false os cs (still ∙ going) stack_then left in
        omega (arith, p, q, gap_few v.at v.next, length-append os (t ∷ []))

    place_then : cond v.done (v.end + 1) v.at ≡ last + 1
    place_then = ap (λ d. cond d (v.end + 1) v.at) (still ∙ going) ∙ at

    route_here : last < w.at → v.run ≡ w.run → AreRuns v × StepsRun w step.Passed v
    route_here b run = stayed w v a placed_then fewer _ _ hops_held hops_then (closed_here os t cs w.at w.end placed far' (omega (arith, top_last))) run (place_then ∙ e ∙ sym place_before)
      where
        e : last + 1 ≡ w.at
        e = omega (arith, ends_from w.stack.items cs w.at w.end a.placed last number inner)

    route_later : w.at ≤ last → v.run ≡ (joined w.run (record { first = w.at; last = last }) number).1 → AreRuns v × StepsRun w (step_of (joined w.run (record { first = w.at; last = last }) number).0) v
    route_later b run =
        turned w v a placed_then fewer _ _ hops_held hops_then (record { first = w.at; last = last }) number
        (span_as (closed_later os t cs w.at w.end placed far' (omega (arith, top_last))) top_last (λ i. (sym top i).1))
        place_before place_then run (omega arith)

  -- the family closes
  module _ (over' : v.done ≡ true) (at : v.at ≡ w.at) (kept : v.stack.items ≡ w.stack.items) (l : w.end ≤ last) where
    at_end : last ≡ w.end
    at_end = omega (arith, ends_within w.stack.items cs w.at w.end a.placed last number inner)

    fewer_done : changes_left v < changes_left w
    fewer_done =
        let p = changes_as w false w.stack.items cs going refl refl in
        let q = changes_as v true w.stack.items cs over' kept left in
        omega (arith, p, q, gap_few v.at v.next)

    family_later : v.run ≡ (joined w.run (record { first = w.at; last = last }) number).1 → AreRuns v × StepsRun w (step_of (joined w.run (record { first = w.at; last = last }) number).0) v
    family_later run =
        let is = family_closes w.stack.items cs w.at w.end a.placed number ((λ i. (sym at_end i, number)) ∙ inner) (λ i d j. omega (arith, at_end, far i d j)) in
        turned w v a (placed_as v w.at w.end w.stack.items cs at end kept left a.placed) fewer_done _ (λ x. None)
        (hops_are w false w.at w.stack.items cs going refl refl refl) (hops_are v true v.at v.stack.items (coming v.next v.rest) over' refl refl refl) (record { first = w.at; last = last }) number
        (span_as is (sym at_end) refl)
        place_before (ap (λ d. cond d (v.end + 1) v.at) over' ∙ omega (arith, end, at_end)) run (omega (arith, at_end))

  -- a stack whose innermost route ends before the family is not empty
  split_at : last < w.end → (os : List RouteSpan) × (t : RouteSpan) × (w.stack.items ≡ os ++ t ∷ [])
  split_at l = ⊎_elim (λ (e : w.stack.items ≡ []). let g : last ≡ w.end = λ i. ((inner ∙ ap (innermost (w.end, None)) e) i).0 in absurd (omega (arith, g))) (λ p. p) (last_of w.stack.items)

  module _ (past : IsPast w last v) where
    pub close_here : last < w.at → v.run ≡ w.run → AreRuns v × StepsRun w step.Passed v
    close_here b run = ⊎_elim (λ q. let p = split_at q.0 in route_here q.1.0 q.1.1 q.1.2 p.0 p.1 p.2 q.0 b run) (λ q. absurd (omega (arith, a.placed.order, q.0))) (by_test last w.end past)

    pub close_later : w.at ≤ last → v.run ≡ (joined w.run (record { first = w.at; last = last }) number).1 → AreRuns v × StepsRun w (step_of (joined w.run (record { first = w.at; last = last }) number).0) v
    close_later b run = ⊎_elim (λ q. let p = split_at q.0 in route_later q.1.0 q.1.1 q.1.2 p.0 p.1 p.2 q.0 b run) (λ q. family_later q.1.0 q.1.1 q.1.2 q.0 run) (by_test last w.end past)
