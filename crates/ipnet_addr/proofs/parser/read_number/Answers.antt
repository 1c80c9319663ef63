use Rattle.std.proofs.Common.{◌≡◌, ℕ, ◌+◌, ◌*◌, ◌<◌, ◌≤◌, List, take, get_or, length, arith, refl, sym, le_trans, lit≤}
use Rattle.std.proofs.lemmas.List.{get_or_past}
use Rattle.std.proofs.lemmas.Int.Digits.{digits_more, digits_value_more}
use Rattle.std.specs.Char.{digit_value}
use Rattle.std.specs.Str.Parse.{AllDigits, digits_value}
use Rattle.std.proofs.NetLemmas.Numbers.{read_number_some_at, read_number_large_at, read_number_empty}
use Rattle.ipnet_addr.proofs.parser.read_number.Goals.{else-loop-b-test, then-loop-b-test+in_default}
use Rattle.ipnet_addr.proofs.parser.read_number.Goals as goal

-- one more digit
more : (radix : ℕ) (s : List ℕ) (i j value digit : ℕ) → i ≡ j → j < length s → AllDigits radix (take i s) → value ≡ digits_value radix (take i s) → (digit_value (get_or s j 0) < radix) × (digit ≡ digit_value (get_or s j 0)) → AllDigits radix (take (i + 1) s) × (value * radix + digit ≡ digits_value radix (take (i + 1) s))
more radix s i j value digit same within all is h =
    let inside : i < length s = omega arith in
    let at : get_or s j 0 ≡ get_or s i 0 = rw same refl in
    (digits_more radix s i inside all (rw (← at) h.0), rw (digits_value_more radix s i inside, ← at, ← is, h.1))

-- the loop ends at the end of the text or at a byte that is no digit
past : (radix : ℕ) (s : List ℕ) (i j : ℕ) → radix ≤ 16 → i ≡ j → length s ≤ j → radix ≤ digit_value (get_or s i 0)
past radix s i j high same end = rw (same, get_or_past s j 0 end) (le_trans high (lit≤ tt))

other : (radix : ℕ) (s : List ℕ) (i j : ℕ) → i ≡ j → ¬ (digit_value (get_or s j 0) < radix) → radix ≤ digit_value (get_or s i 0)
other radix s i j same h = rw same (let d = digit_value (get_or s j 0) in omega arith)

pub returns-then-next-max-clause-value : goal.returns-then-next-max-clause-value
returns-then-next-max-clause-value c =
    let i = c.loop-b.invariant in
    let h = more _ c.args.s.now _ _ _ _ i.0 c.loop-b-test.true i.1 i.2 c.in-Some.ensures in
    sym (read_number_large_at _ _ _ _ (omega arith) h.0 (rw (← h.1) c.if-next-max.true))

pub loop-b-preserved : goal.loop-b-preserved
loop-b-preserved c =
    let i = c.loop-b.invariant in
    let h = more _ c.args.s.now _ _ _ _ i.0 c.loop-b-test.true i.1 i.2 c.in-Some.ensures in
    (omega arith, h.0, h.1, c.if-next-max.false)

pub returns-then-len-eq0-clause-value : goal.returns-then-len-eq0-clause-value
returns-then-len-eq0-clause-value c =
    let stop : c.args.radix ≤ digit_value (get_or c.args.s.now c.loop-b.len 0) = elim c.loop-b-test.branch [
      | else-loop-b-test w ↦ past _ _ _ _ c.requires.high c.loop-b.invariant.0 w.loop-b-test.false
      | then-loop-b-test+in_default w ↦ other _ c.args.s.now _ _ c.loop-b.invariant.0 w.in_default.ensures
    ] in
    sym (read_number_empty _ _ c.args.s.now (rw c.if-len-eq0.true at stop))

pub returns-else-len-eq0-clause-value : goal.returns-else-len-eq0-clause-value
returns-else-len-eq0-clause-value c =
    let i = c.loop-b.invariant in
    let stop : c.args.radix ≤ digit_value (get_or c.args.s.now c.loop-b.len 0) = elim c.loop-b-test.branch [
      | else-loop-b-test w ↦ past _ _ _ _ c.requires.high i.0 w.loop-b-test.false
      | then-loop-b-test+in_default w ↦ other _ c.args.s.now _ _ i.0 w.in_default.ensures
    ] in
    let read = read_number_some_at _ c.args.max _ _ (omega arith) (omega arith) i.1 (rw (← i.2) i.3) stop in
    rw i.2 (sym read)
