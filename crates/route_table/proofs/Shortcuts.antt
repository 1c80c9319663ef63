-- A route that no route lies inside is opened and closed at once, and one with the hop number around it is passed over.
use Rattle.std.proofs.Common.{◌≡◌, ◌+◌, ◌-◌, ◌<◌, ◌≤◌, Bool, true, false, cond, nat_lt, [], ◌∷◌, ◌++◌, length, take, map, Option, Some, None, refl, sym, ap, ◌∙◌, subst, MatchOption, arith}
use Rattle.std.proofs.lemmas.Bool.Decides.{nat_tests}
use Rattle.route_table.specs.InnerRouteSpans.{RouteSpan, Run}
use Rattle.route_table.specs.declared.runs.Runs.{Runs}
use Rattle.route_table.specs.declared.runs.Step.TheVariants as step
use Rattle.route_table.specs.InnerRunning.{route_span_of, topmost, coming, innermost, over, from_on, changes_left, AreRuns, StepsRun, IsPast, joined, step_of}
use Rattle.route_table.proofs.Openings.{popped, inner_pushed, passed_are, passed_here}
use Rattle.route_table.proofs.PaintedRuns.{EndsBefore}
use Rattle.route_table.proofs.RunSteps.{begins_from, begun_here, changes_as, ends_from_hand, gap_few, hand_from, hops_are, now_comes, passed_then, placed, placed_as}
use Rattle.route_table.proofs.Closings.{close_later}

module _ {P R : Type 0} (w v : Runs P R) (a : AreRuns w) (going : w.done ≡ false) (r : RouteSpan) (next : w.next ≡ Some r) (by : r.first ≤ (innermost (w.end, None) w.stack.items).0) (here : w.at ≡ r.first)
    (end : v.end ≡ w.end) (at : v.at ≡ r.last + 1) (still : v.done ≡ w.done) (stays : v.stack.items ≡ w.stack.items) (left : coming v.next v.rest ≡ map route_span_of w.rest)
    (ends : r.last < w.end) (apart : MatchOption v.next (Unit {0}) (λ s. r.last < s.first)) where
  -- once it is open
  abbrev u : Runs P R
  u = record w { at = r.first; stack = record { items = w.stack.items ++ r ∷ [] }; next = v.next; rest = v.rest }

  opened : AreRuns u × StepsRun w step.Passed u
  opened = begun_here w a r next u going (innermost (w.end, None) w.stack.items).1 refl by refl refl refl refl left here refl

  past : IsPast u r.last v
  past =
      let l : nat_lt r.last w.end ≡ true = grind (arith, nat_tests, ends) in
      let rs = w.stack.items ++ r ∷ [] in
      let taken = stays ∙ sym (popped rs (take (length rs - 1) rs) w.stack.items r refl refl) in
      subst (λ (c : Bool). cond c ((v.done ≡ w.done) × (v.at ≡ r.last + 1) × (v.stack.items ≡ take (length rs - 1) rs)) ((v.done ≡ true) × (v.at ≡ r.first) × (v.stack.items ≡ rs))) (sym l) (still, at, taken)

  pub opened_and_closed : v.run ≡ (joined w.run (record { first = r.first; last = r.last }) r.number).1 → AreRuns v × StepsRun w (step_of (joined w.run (record { first = r.first; last = r.last }) r.number).0) v
  opened_and_closed run =
      let c = close_later u v opened.0 going r.last r.number (sym (inner_pushed (w.end, None) w.stack.items r)) apart end refl refl past (begins_from w a r next).1 run in
      (c.0, passed_then w u v (joined w.run (record { first = r.first; last = r.last }) r.number).0 opened.1 refl c.1)

module _ {P R : Type 0} (w v : Runs P R) (a : AreRuns w) (going : w.done ≡ false) (r : RouteSpan) (next : w.next ≡ Some r) (by : r.first ≤ (innermost (w.end, None) w.stack.items).0) (same : r.number ≡ (innermost (w.end, None) w.stack.items).1)
    (at : v.at ≡ w.at) (end : v.end ≡ w.end) (still : v.done ≡ w.done) (run : v.run ≡ w.run) (stays : v.stack.items ≡ w.stack.items) (left : coming v.next v.rest ≡ map route_span_of w.rest) where
  place_of : (u : Runs P R) → u.done ≡ false → cond u.done (u.end + 1) u.at ≡ u.at
  place_of u going = ap (λ d. cond d (u.end + 1) u.at) going

  fewer : changes_left v < changes_left w
  fewer =
      let cs = map route_span_of w.rest in
      let p = changes_as w false w.stack.items (r ∷ cs) going refl (now_comes w a r next) in
      let q = changes_as v false w.stack.items cs (still ∙ going) stays left in
      let g = gap_few v.at v.next in
      omega (arith, p, q, g)

  pub passed_over : AreRuns v × StepsRun w step.Passed v
  passed_over =
      let cs = map route_span_of w.rest in
      let hops_before = hops_are w false w.at w.stack.items (r ∷ cs) going refl refl (now_comes w a r next) in
      let hops_then = hops_are v false w.at w.stack.items cs (still ∙ going) at stays left in (
        record {
          placed = placed_as v w.at w.end w.stack.items cs at end stays left (passed_are w.stack.items r cs w.at w.end (placed w a r next) _ _ refl by);
          hand = hand_from v.run v.done v.at v.end w.at (place_of v (still ∙ going) ∙ at) (subst (λ (o : Option Run). EndsBefore o w.at) (sym run) (ends_from_hand w.run w.done w.at w.end w.at (place_of w going) a.hand));
        },
        (
          λ x. ap (λ h. h x) hops_before ∙ ap (λ o. over w.run o x) (passed_here w.stack.items r cs w.at w.end (placed w a r next) _ _ refl by same x)
              ∙ ap (λ o. over o (from_on false w.at (topmost None (w.stack.items ++ cs)) x) x) (sym run) ∙ ap (λ h. h x) (sym hops_then),
          fewer,
        ),
      )
