-- The hops that routes paint, one over another, and the runs of them.
use Rattle.std.proofs.Common.{◌≡◌, ℕ, ◌+◌, ◌<◌, ◌≤◌, ◌==◌, Bool, true, false, cond, Option, Some, None, refl, arith}
use Rattle.std.proofs.lemmas.Bool.Decides.{nat_tests}
use Rattle.ipnet_blocks.specs.declared.aggregate.Span.{Span}
use Rattle.route_table.specs.InnerRouteSpans.{Run}
use Rattle.route_table.specs.InnerRunning.{over, joined, IsFirstRun}

-- a run over no numbers
pub run_alone : (r : Run) → r.span.first ≤ r.span.last → IsFirstRun (λ x. over (Some r) None x) r (λ x. None)
run_alone r some = record {
  some = some;
  before = λ x l. grind (arith, nat_tests);
  within = λ x l u. grind (arith, nat_tests);
  ends = λ e. grind (arith, nat_tests);
  gone = λ x l. refl;
  kept = λ x l. grind (arith, nat_tests);
}

-- the numbers of a span have the number k, those before it none; `later` are the numbers without those of the span
pub record IsSpanOf (s : Span) (k : Option ℕ) (h later : ℕ → Option ℕ) : Type 0 where
  pub some : s.first ≤ s.last
  pub before : (x : ℕ) → x < s.first → h x ≡ None
  pub within : (x : ℕ) → s.first ≤ x → x ≤ s.last → h x ≡ k
  pub gone : (x : ℕ) → x ≤ s.last → later x ≡ None
  pub kept : (x : ℕ) → s.last < x → later x ≡ h x

-- the run ends just before the number
abbrev pub EndsBefore : Option Run → ℕ → Type 0
EndsBefore None at = Unit {0}
EndsBefore (Some r) at = (r.span.first ≤ r.span.last) × (r.span.last + 1 ≡ at)

-- a run ended, or none did
abbrev pub Ends : (ℕ → Option ℕ) → Option Run → (ℕ → Option ℕ) → ℕ → Type 0
Ends h None later end = (x : ℕ) → h x ≡ later x
Ends h (Some r) later end = IsFirstRun h r later × (r.span.last ≤ end)

-- the hops of a run with those of a span after it
module _ (s : Span) (h later : ℕ → Option ℕ) where
  abbrev Joins : Option Run → Option Run × Option Run → Type 0
  Joins run j = Ends (λ x. over run (h x) x) j.0 (λ x. over j.1 (later x) x) s.last × EndsBefore j.1 (s.last + 1)

  -- a run ends where the span has another number
  run_ends : (r : Run) (k : Option ℕ) (new : Option Run) → IsSpanOf s k h later → (k ≡ Some r.number → ⊥) → EndsBefore (Some r) s.first → ((x : ℕ) → over new (later x) x ≡ h x)
      → Ends (λ x. over (Some r) (h x) x) (Some r) (λ x. over new (later x) x) s.last
  run_ends r k new i other e same = (
    record {
      some = e.0;
      before = λ x l. grind (arith, nat_tests, i.before x);
      within = λ x l u. grind (arith, nat_tests);
      ends = λ q. grind (arith, nat_tests, i.within s.first, i.some, e.1, other);
      gone = λ x l. grind (arith, same x, i.before x, e.1);
      kept = λ x l. grind (arith, nat_tests, same x);
    },
    omega (arith, e.1, i.some),
  )

  pub joins : (run : Option Run) (k : Option ℕ) → IsSpanOf s k h later → EndsBefore run s.first → Joins run (joined run s k)
  joins None None i e = (λ x. grind (arith, i.kept x, i.before x, i.gone x, i.within x), tt)
  joins (Some r) None i e = (run_ends r None None i (λ q. grind arith) e (λ x. grind (arith, i.kept x, i.before x, i.gone x, i.within x)), tt)
  joins None (Some k) i e = (λ x. grind (arith, nat_tests, i.kept x, i.before x, i.gone x, i.within x), (i.some, refl))
  joins (Some r) (Some k) i e = go (r.number == k) refl
    where
      go : (b : Bool) → (r.number == k) ≡ b
          → Joins (Some r) (cond b (None, Some (record { span = record { first = r.span.first; last = s.last }; number = k })) (Some r, Some (record { span = s; number = k })))
      go true t = (λ x. grind (arith, nat_tests, t, i.some, e.1, i.kept x, i.before x, i.gone x, i.within x), (omega (arith, e.0, e.1, i.some), refl))
      go false t = (
        run_ends r (Some k) (Some (record { span = s; number = k })) i (λ q. grind (arith, nat_tests, t)) e (λ x. grind (arith, nat_tests, i.kept x, i.before x, i.gone x, i.within x)),
        (i.some, refl),
      )
