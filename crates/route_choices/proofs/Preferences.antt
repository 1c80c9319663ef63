-- The order of choices.
use Rattle.std.proofs.Common.{◌≡◌, ◌≢◌, ◌<◌, ◌⊎◌, inl, inr, ⊎_elim, Bool, true, false, not, ◌&&◌, ◌||◌, ◌==◌, nat_lt, refl, sym, ap, ◌∙◌, arith}
use Rattle.std.proofs.lemmas.Bool.Decides.{nat_tests}
use Rattle.std.proofs.lemmas.Bool.{or_cases, or_right, and_parts}
use Rattle.route_choices.specs.declared.hop.Hop.{Hop}
use Rattle.route_choices.specs.declared.hop.Hop.TheVariants.{Number, Drop}
use Rattle.route_choices.specs.Choices.{Choice, same_hop, hop_before, beats}

-- ---- hops

pub hop_from_test : (j k : Hop) → same_hop j k ≡ true → j ≡ k
hop_from_test (Number j) (Number k) e = let q : j ≡ k = grind (arith, nat_tests, e) in ap Number q
hop_from_test (Number j) Drop e = absurd (cc)
hop_from_test Drop (Number k) e = absurd (cc)
hop_from_test Drop Drop e = refl

pub same_itself : (k : Hop) → same_hop k k ≡ true
same_itself (Number k) = grind (arith, nat_tests)
same_itself Drop = refl

pub test_from_hop : (j k : Hop) → j ≡ k → same_hop j k ≡ true
test_from_hop j k e = ap (same_hop j) (sym e) ∙ same_itself j

pub apart_from_test : (j k : Hop) → not (same_hop j k) ≡ true → j ≢ k
apart_from_test j k e = λ q. let t = ap not (test_from_hop j k q) in cc

pub test_from_apart : (j k : Hop) → j ≢ k → not (same_hop j k) ≡ true
test_from_apart j k h = go (same_hop j k) refl
  where
    go : (b : Bool) → same_hop j k ≡ b → not (same_hop j k) ≡ true
    go true e = absurd (h (hop_from_test j k e))
    go false e = ap not e

hop_strict : (j k : Hop) → hop_before j k ≡ true → hop_before k j ≡ true → ⊥
hop_strict (Number j) (Number k) p q = let l : j < k = grind (arith, nat_tests, p) in let m : k < j = grind (arith, nat_tests, q) in omega arith
hop_strict (Number j) Drop p q = cc
hop_strict Drop k p q = cc

hop_total : (j k : Hop) → (hop_before j k ≡ true) ⊎ ((j ≡ k) ⊎ (hop_before k j ≡ true))
hop_total (Number j) (Number k) = go (nat_lt j k) (nat_lt k j) refl refl
  where
    go : (b c : Bool) → nat_lt j k ≡ b → nat_lt k j ≡ c → (nat_lt j k ≡ true) ⊎ ((Number j ≡ Number k) ⊎ (nat_lt k j ≡ true))
    go true c e f = inl e
    go false true e f = inr (inr f)
    go false false e f = let q : j ≡ k = grind (arith, nat_tests, e, f) in inr (inl (ap Number q))
hop_total (Number j) Drop = inl refl
hop_total Drop (Number k) = inr (inr refl)
hop_total Drop Drop = inr (inl refl)

hop_transitive : (i j k : Hop) → hop_before i j ≡ true → hop_before j k ≡ true → hop_before i k ≡ true
hop_transitive (Number i) (Number j) (Number k) p q = let l : i < j = grind (arith, nat_tests, p) in let m : j < k = grind (arith, nat_tests, q) in let n : i < k = omega arith in grind (arith, nat_tests, n)
hop_transitive (Number i) j Drop p q = refl
hop_transitive (Number i) Drop (Number k) p q = absurd (cc)
hop_transitive Drop j k p q = absurd (cc)

-- ---- choices

-- `beats` as a fact
abbrev pub Better : Choice → Choice → Type 0
Better c d = (d.pref < c.pref) ⊎ ((c.pref ≡ d.pref) × (hop_before c.hop d.hop ≡ true))

pub better_from_test : (c d : Choice) → beats c d ≡ true → Better c d
better_from_test c d e = ⊎_elim
    (λ p. inl (grind (arith, nat_tests, p)))
    (λ q. let t = and_parts (c.pref == d.pref) (hop_before c.hop d.hop) q in inr ((grind (arith, nat_tests, t.0)), t.1))
    (or_cases (nat_lt d.pref c.pref) (c.pref == d.pref && hop_before c.hop d.hop) e)

pub test_from_better : (c d : Choice) → Better c d → beats c d ≡ true
test_from_better c d (inl l) = let e : nat_lt d.pref c.pref ≡ true = grind (arith, nat_tests, l) in ap (λ b. b || (c.pref == d.pref && hop_before c.hop d.hop)) e
test_from_better c d (inr t) =
    let e : (c.pref == d.pref) ≡ true = (let q = t.0 in grind (arith, nat_tests)) in
    or_right (nat_lt d.pref c.pref) (c.pref == d.pref && hop_before c.hop d.hop) (ap (λ b. b && hop_before c.hop d.hop) e ∙ t.1)

pub strict : (c d : Choice) → beats c d ≡ true → beats d c ≡ true → ⊥
strict c d p q = ⊎_elim
    (λ l. ⊎_elim (λ m. omega arith) (λ t. let e = t.0 in omega arith) (better_from_test d c q))
    (λ s. ⊎_elim (λ m. let e = s.0 in omega arith) (λ t. hop_strict c.hop d.hop s.1 t.1) (better_from_test d c q))
    (better_from_test c d p)

pub transitive : (c d e : Choice) → beats c d ≡ true → beats d e ≡ true → beats c e ≡ true
transitive c d e p q = test_from_better c e (⊎_elim
    (λ l. ⊎_elim (λ m. inl (omega arith)) (λ t. let f = t.0 in inl (omega arith)) (better_from_test d e q))
    (λ s. ⊎_elim (λ m. let f = s.0 in inl (omega arith)) (λ t. inr (s.0 ∙ t.0, hop_transitive c.hop d.hop e.hop s.1 t.1)) (better_from_test d e q))
    (better_from_test c d p))

-- of two choices of different hops one beats the other
pub total : (c d : Choice) → c.hop ≢ d.hop → (beats c d ≡ true) ⊎ (beats d c ≡ true)
total c d apart = go (nat_lt d.pref c.pref) (nat_lt c.pref d.pref) refl refl
  where
    go : (x y : Bool) → nat_lt d.pref c.pref ≡ x → nat_lt c.pref d.pref ≡ y → (beats c d ≡ true) ⊎ (beats d c ≡ true)
    go true y e f = inl (test_from_better c d (inl (grind (arith, nat_tests, e))))
    go false true e f = inr (test_from_better d c (inl (grind (arith, nat_tests, f))))
    go false false e f =
        let q : c.pref ≡ d.pref = grind (arith, nat_tests, e, f) in
        ⊎_elim (λ l. inl (test_from_better c d (inr (q, l))))
        (λ r. ⊎_elim (λ s. absurd (apart s)) (λ l. inr (test_from_better d c (inr (sym q, l)))) r)
        (hop_total c.hop d.hop)
