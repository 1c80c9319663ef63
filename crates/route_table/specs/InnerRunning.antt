-- The runs of one hop number, when each route is painted over those before it.
use Rattle.std.specs.Prelude.{◌≡◌, ℕ, ◌+◌, ◌-◌, ◌*◌, ◌<◌, ◌≤◌, ◌&&◌, ◌==◌, true, nat_le, nat_lt, Bool, cond, length, take, List, [], ◌∷◌, ◌++◌, Option, Some, None, MatchOption, All, AllPairs, map}
use Rattle.ipnet_blocks.specs.Blocks.{first, last}
use Rattle.ipnet_blocks.specs.declared.aggregate.Span.{Span}
use Rattle.route_choices.specs.Hops.{number_of}
use Rattle.route_laws.specs.Tables.{Route}
use Rattle.route_table.specs.InnerRouteSpans.{RouteSpan, Run}
use Rattle.route_table.specs.declared.runs.Runs.{Runs}
use Rattle.route_table.specs.declared.runs.Step.{Step}
use Rattle.route_table.specs.declared.runs.Step.TheVariants as step

-- the span of a route's addresses, its length, and the number of its hop
abbrev pub route_span_of : Route → RouteSpan
route_span_of r = record { first = first r.block; last = last r.block; len = r.block.len; number = number_of r.hop }

-- the hop number of x when each route is painted over those before it: that of the last route at x, or k
abbrev pub topmost : Option ℕ → List RouteSpan → ℕ → Option ℕ
topmost k [] x = k
topmost k (r ∷ rs) x = topmost (cond (nat_le r.first x && nat_le x r.last) r.number k) rs x

-- the routes that follow: the next one and those after it
abbrev pub coming : Option RouteSpan → List Route → List RouteSpan
coming None rs = []
coming (Some r) rs = r ∷ map route_span_of rs

-- the end of the innermost open route, and its number
abbrev pub innermost : ℕ × Option ℕ → List RouteSpan → ℕ × Option ℕ
innermost k [] = k
innermost k (r ∷ rs) = innermost (r.last, r.number) rs

-- the hop of x: that of the run if x is in it, else k
abbrev pub over : Option Run → Option ℕ → ℕ → Option ℕ
over None k x = k
over (Some r) k x = cond (nat_le r.span.first x && nat_le x r.span.last) (Some r.number) k

-- the hops from a place on
abbrev pub from_on : Bool → ℕ → (ℕ → Option ℕ) → ℕ → Option ℕ
from_on done at h x = cond done None (cond (nat_le at x) (h x) None)

-- the hops that are left: those of the current run, and those that the routes paint from the place on
abbrev pub hops_left : {P R : Type 0} → Runs P R → ℕ → Option ℕ
hops_left w x = over w.run (from_on w.done w.at (topmost None (w.stack.items ++ coming w.next w.rest)) x) x

-- the later of two routes is disjoint from the earlier one, or inside it
pub record IsApartOrInside (a b : RouteSpan) : Type 0 where
  pub order : a.first ≤ b.first
  pub inside : b.first ≤ a.last → (b.last ≤ a.last) × (a.len < b.len)

-- a route is open at a place, or ended just before it
pub record IsOpen (at end : ℕ) (r : RouteSpan) : Type 0 where
  pub begun : r.first ≤ at
  pub ends : at ≤ r.last + 1
  pub fits : r.last ≤ end

-- a route begins at a place or later
pub record IsComing (at end : ℕ) (r : RouteSpan) : Type 0 where
  pub later : at ≤ r.first
  pub some : r.first ≤ r.last
  pub fits : r.last ≤ end
  pub long : r.len ≤ 128

-- the open routes and those that follow, at a place
pub record ArePlaced (stack coming : List RouteSpan) (at end : ℕ) : Type 0 where
  pub order : at ≤ end
  pub opened : All (IsOpen at end) stack
  pub nested : AllPairs (λ a b. (b.last ≤ a.last) × (a.len < b.len)) stack
  pub coming' : All (IsComing at end) coming
  pub apart : All (λ r. All (IsApartOrInside r) coming) stack
  pub follow : AllPairs IsApartOrInside coming

-- the current run ends just before the place
abbrev pub IsAtHand : Option Run → Bool → ℕ → ℕ → Type 0
IsAtHand None done at end = Unit {0}
IsAtHand (Some r) done at end = (r.span.first ≤ r.span.last) × (r.span.last + 1 ≡ cond done (end + 1) at)

pub record AreRuns {P R : Type 0} (w : Runs P R) : Type 0 where
  pub placed : ArePlaced w.stack.items (coming w.next w.rest) w.at w.end
  pub hand : IsAtHand w.run w.done w.at w.end

-- the first of the runs, and the numbers without it
pub record IsFirstRun (h : ℕ → Option ℕ) (r : Run) (later : ℕ → Option ℕ) : Type 0 where
  pub some : r.span.first ≤ r.span.last
  pub before : (x : ℕ) → x < r.span.first → h x ≡ None
  pub within : (x : ℕ) → r.span.first ≤ x → x ≤ r.span.last → h x ≡ Some r.number
  pub ends : h (r.span.last + 1) ≡ Some r.number → ⊥
  pub gone : (x : ℕ) → x ≤ r.span.last → later x ≡ None
  pub kept : (x : ℕ) → r.span.last < x → later x ≡ h x

-- the first run was returned, or there was none
abbrev pub GivesRun : {P R : Type 0} → Runs P R → Option Run → Runs P R → Type 0
GivesRun w run v = MatchOption run (((x : ℕ) → hops_left w x ≡ None) × ((x : ℕ) → hops_left v x ≡ None)) (λ r. IsFirstRun (hops_left w) r (hops_left v) × (r.span.last ≤ w.end))

-- 1 if there are numbers between the place and the next route, else 0
abbrev pub gap : ℕ → Option RouteSpan → ℕ
gap at None = 0
gap at (Some r) = cond (nat_lt at r.first) 1 0

-- a bound on the remaining steps: each route that follows is reached, opened and closed, and the family ends
abbrev pub changes_left : {P R : Type 0} → Runs P R → ℕ
changes_left w = 4 * length (coming w.next w.rest) + 2 * length w.stack.items + cond w.done 0 2 + gap w.at w.next

-- a step returned the first run, or made a change that ended no run, or none was left
abbrev pub StepsRun : {P R : Type 0} → Runs P R → Step R → Runs P R → Type 0
StepsRun w (step.Run r) v = IsFirstRun (hops_left w) r (hops_left v) × (r.span.last ≤ w.end)
StepsRun w step.Passed v = ((x : ℕ) → hops_left w x ≡ hops_left v x) × (changes_left v < changes_left w)
StepsRun w step.Done v = ((x : ℕ) → hops_left w x ≡ None) × ((x : ℕ) → hops_left v x ≡ None)

-- the run that ends, and the current run, after a span with this number is added
abbrev pub joined : Option Run → Span → Option ℕ → Option Run × Option Run
joined run s None = (run, None)
joined None s (Some k) = (None, Some (record { span = s; number = k }))
joined (Some r) s (Some k) = cond (r.number == k) (None, Some (record { span = record { first = r.span.first; last = s.last }; number = k })) (Some r, Some (record { span = s; number = k }))

abbrev pub step_of : {R : Type 0} → Option Run → Step R
step_of None = step.Passed
step_of (Some r) = step.Run r

-- the innermost open route was closed, or the whole family was
abbrev pub IsPast : {P R : Type 0} → Runs P R → ℕ → Runs P R → Type 0
IsPast w last v = cond (nat_lt last w.end)
    ((v.done ≡ w.done) × (v.at ≡ last + 1) × (v.stack.items ≡ take (length w.stack.items - 1) w.stack.items))
    ((v.done ≡ true) × (v.at ≡ w.at) × (v.stack.items ≡ w.stack.items))
