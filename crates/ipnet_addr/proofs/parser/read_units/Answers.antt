use Rattle.std.proofs.Common.{◌≡◌, ℕ, suc, ◌+◌, ◌-◌, ◌<◌, ◌==◌, nat_lt, true, false, List, [], ◌∷◌, ◌++◌, length, take, Some, None, ◌∙◌, arith, rules, append-nil, append_assoc, ne_eqb, set, get_or, ap, sym, length-set, drop-set-lt, drop-drop}
use Rattle.std.proofs.lemmas.List.{places, take_more_set}
use Rattle.std.proofs.lemmas.Bool.Decides.{nat_tests}
use Rattle.std.proofs.lemmas.Grind.{common_steps}
use Rattle.std.specs.Net.Addr.{segments_of}
use Rattle.std.specs.Net.Reader.{after, read_separator}
use Rattle.ipnet_addr.specs.AddressReader.{read_units, read_ipv4_if, read_group}
use Rattle.ipnet_addr.proofs.parser.read_units.Goals as goal

-- one turn of the loop, at the index i of n
module _ (n i : ℕ) (text s front : List ℕ) (within : i < n) (so_far : read_units n true text ≡ after front (read_units (n - i) (i == 0) s)) where
  room : n - i ≡ suc (n - (i + 1))
  room = omega arith

  fits : nat_lt 0 (n - (i + 1)) ≡ nat_lt (i + 1) n
  fits = grind (arith, nat_tests)

  no_separator : None ≡ read_separator (i == 0) s → read_units n true text ≡ (front, false, s)
  unfolding read_units
  no_separator e = so_far ∙ rw (room, ← e, append-nil)

  module _ (group : List ℕ) (led : Some group ≡ read_separator (i == 0) s) where
    ipv4 : (o rest : List ℕ) → Some (o, rest) ≡ read_ipv4_if (nat_lt (i + 1) n) group → read_units n true text ≡ (front ++ segments_of o, true, rest)
    unfolding read_units
    ipv4 o rest e = so_far ∙ rw (room, ← led, fits, ← e)

    module _ (no_ipv4 : None ≡ read_ipv4_if (nat_lt (i + 1) n) group) where
      no_segment : None ≡ read_group group → read_units n true text ≡ (front, false, s)
      unfolding read_units
      no_segment e = so_far ∙ rw (room, ← led, fits, ← no_ipv4, ← e, append-nil)

      segment : (v : ℕ) (rest : List ℕ) → Some (v, rest) ≡ read_group group → read_units n true text ≡ after (front ++ v ∷ []) (read_units (n - (i + 1)) (i + 1 == 0) rest)
      unfolding read_units
      segment v rest e =
          let later : (i + 1 == 0) ≡ false = ne_eqb _ _ (omega arith) in
          so_far ∙ rw (room, ← led, fits, ← no_ipv4, ← e, later, append_assoc)

pub returns-in_default-clause-value : goal.returns-in_default-clause-value
returns-in_default-clause-value c = no_separator _ _ _ _ _ c.loop-i-test.true c.loop-i.invariant.0 c.in_default.ensures

-- two writes put a list of two after the front
two_more : (xs pair : List ℕ) (i : ℕ) → i + 1 < length xs → length pair ≡ 2 → take (i + 2) (set (set xs i (get_or pair 0 0)) (i + 1) (get_or pair 1 0)) ≡ take i xs ++ pair
two_more xs [] i within two = absurd (omega arith)
two_more xs (a ∷ []) i within two = absurd (omega arith)
two_more xs (a ∷ b ∷ x ∷ more) i within two = absurd (omega arith)
two_more xs (a ∷ b ∷ []) i within two =
    let twice : i + 2 ≡ i + 1 + 1 = omega arith in
    let second : i + 1 < length (set xs i a) = rw length-set within in
    rw (twice, take_more_set (set xs i a) (i + 1) b second, take_more_set xs i a (omega arith), append_assoc)

pub returns-in-Some-read_ipv4_if-clause-value : goal.returns-in-Some-read_ipv4_if-clause-value
returns-in-Some-read_ipv4_if-clause-value c =
    let read = ipv4 _ _ _ _ _ c.loop-i-test.true c.loop-i.invariant.0 _ c.in-Some.ensures _ _ c.in-Some-read_ipv4_if.ensures in
    let within : c.loop-i.i + 1 < length c.loop-i.units = grind (arith, nat_tests, c.in-Some-read_ipv4_if.ensures) in
    let put = two_more c.loop-i.units c.halves.result c.loop-i.i within (search rules) in
    read ∙ ap (λ xs. (xs, true, c.in-Some-read_ipv4_if.rest.now)) (sym (put ∙ ap (λ p. take c.loop-i.i c.loop-i.units ++ p) c.halves.ensures))

pub returns-in-Some-read_ipv4_if-clause-others : goal.returns-in-Some-read_ipv4_if-clause-others
returns-in-Some-read_ipv4_if-clause-others c =
    let i = c.loop-i.i in
    let first : i < i + 2 = omega arith in
    let second : i + 1 < i + 2 = omega arith in
    rw (drop-set-lt, drop-set-lt, ← drop-drop 2 i, ← drop-drop 2 i c.args.units.now, c.loop-i.invariant.1)

pub returns-in_default-read_group-clause-value : goal.returns-in_default-read_group-clause-value
returns-in_default-read_group-clause-value c =
    no_segment _ _ _ _ _ c.loop-i-test.true c.loop-i.invariant.0 _ c.in-Some.ensures c.in_default-read_ipv4_if.ensures c.in_default-read_group.ensures

pub loop-i-preserved : goal.loop-i-preserved
loop-i-preserved c =
    let within : c.loop-i.i < length c.loop-i.units = omega arith in
    let read = segment _ _ _ _ _ c.loop-i-test.true c.loop-i.invariant.0 _ c.in-Some.ensures c.in_default-read_ipv4_if.ensures _ _ c.in-Some-read_group.ensures in
    (rw (take_more_set c.loop-i.units c.loop-i.i c.in-Some-read_group.unit within) read, grind (arith, common_steps, places))

pub returns-clause-value : goal.returns-clause-value
unfolding read_units
returns-clause-value c =
    let none : length c.args.units.now - c.loop-i.i ≡ 0 = omega arith in
    let all : length c.args.units.now ≡ c.loop-i.i = omega arith in
    c.loop-i.invariant.0 ∙ rw (none, append-nil, ← all)
