-- The number of nodes that a search enters, in a node with skipped levels.
use Rattle.std.proofs.Common.{◌≡◌, ℕ, zero, suc, ◌+◌, ◌-◌, ◌*◌, ◌/◌, ◌^◌, ◌<◌, ◌≤◌, Bool, List, ◌++◌}
use Rattle.std.proofs.Common.{length, take, drop, refl, sym, ap, ◌∙◌, arith, inl, inr}
use Rattle.std.proofs.lemmas.Bool.{cases_lt}
use Rattle.std.proofs.lemmas.List.{length-drop, take-take, drop-take, take_all}
use Rattle.std.proofs.Math.Seq.{take-add}
use Rattle.ipnet_blocks.specs.Blocks.{digits}
use Rattle.ipnet_blocks.proofs.Strings.{length-digits}
use Rattle.trie_core.specs.InnerPlaces.{child_of}
use Rattle.trie_core.specs.Nodes.{Seen}
use Rattle.trie_core.specs.Count.{node_visits}
use Rattle.trie_core.specs.InnerChains.{over, chain, skipped, Starts}
use Rattle.trie_core.proofs.Numbers.{number_bound, take-digits}
use Rattle.trie_core.proofs.Searches.{child_visits}
use Rattle.trie_core.proofs.Visits.{visits_short}
use Rattle.trie_core.proofs.Chains.{over_child, over_other, chain_along, chain_step, more}
use Rattle.trie_core.proofs.SkippedLeaves.{same_five, same_number}

-- so many levels of q are those of s
abbrev Shares : ℕ → List Bool → List Bool → Type 0
Shares j s q = (5 * j ≤ length q) × (take (5 * j) q ≡ take (5 * j) s)

-- level by level
shares_on : (j : ℕ) (q s : List Bool) → 5 ≤ length q → take 5 q ≡ take 5 s → Shares j (drop 5 s) (drop 5 q) → Shares (suc j) s q
shares_on j q s h e t =
    let z : 5 + 5 * j ≡ 5 * suc j = omega arith in
    let f = take-add 5 (5 * j) q ∙ (λ i. e i ++ t.1 i) ∙ sym (take-add 5 (5 * j) s) in
    (omega (arith, t.0, length-drop 5 q, h), ap (λ i. take i q) (sym z) ∙ f ∙ ap (λ i. take i s) z)

shares_past : (j : ℕ) (q s : List Bool) → Shares (suc j) s q → (take 5 q ≡ take 5 s) × Shares j (drop 5 s) (drop 5 q)
shares_past j q s t =
    let z : 5 + 5 * j ≡ 5 * suc j = omega arith in
    let le : 5 ≤ 5 * suc j = omega arith in
    let e = ap (λ i. take i q) z ∙ t.1 ∙ ap (λ i. take i s) (sym z) in (
      sym (take-take 5 (5 * suc j) q le) ∙ ap (take 5) t.1 ∙ take-take 5 (5 * suc j) s le,
      (omega (arith, t.0, length-drop 5 q), sym (drop-take 5 (5 * j) q) ∙ ap (drop 5) e ∙ drop-take 5 (5 * j) s),
    )

-- the first of the skipped levels
first_levels : (j k skip : ℕ) → j ≤ k → skipped j (skip / 2 ^ (5 * (k - j))) ≡ take (5 * j) (skipped k skip)
first_levels j k skip h =
    let z : 5 * k - 5 * j ≡ 5 * (k - j) = omega (arith, h) in
    ap (λ i. digits (5 * j) (skip / 2 ^ i)) (sym z) ∙ sym (take-digits (5 * j) (5 * k) skip (omega (arith, h)))

module _ {X : Type 0} where
  abbrev visits : Seen X → List Bool → ℕ
  visits m q = node_visits m.entries m.spares q

  -- past the skipped levels each of them counts
  visits_past : (k : ℕ) (q r : List Bool) (m : Seen X) → 5 * k ≤ length q → r ≡ drop (5 * k) q
      → visits (chain k q m) q ≡ visits m r + k
  visits_past zero q r m h e = omega (arith, ap (visits m) e)
  visits_past (suc k) q r m h e =
      let t = chain_step k q r h e in
      let one = child_visits (over_child q (chain k (drop 5 q) m) (more k q h).0) refl in
      omega (arith, one, visits_past k (drop 5 q) r m t.0 t.1)

  pub skipped_visits : {w : Seen X} (k skip : ℕ) (q r : List Bool) (m : Seen X) → chain k (skipped k skip) m ≡ w
      → Starts k skip q → r ≡ drop (5 * k) q → visits w q ≡ visits m r + k
  skipped_visits k skip q r m v s e =
      ap (λ n. visits n q) (sym v ∙ chain_along k q (skipped k skip) m s.0 s.1) ∙ visits_past k q r m s.0 e

  -- so many levels are entered, and not the next
  visits_aside : (q s : List Bool) (c : Seen X) → 5 ≤ length s
      → ((5 ≤ length q) × (take 5 q ≡ take 5 s) → ⊥) → visits (over (child_of s) c) q ≡ 1
  visits_aside q s c l f = elim (cases_lt (length q) 5) [
    | inl h ↦ let o = over (child_of s) c in visits_short o.entries o.spares q h
    | inr h ↦ (over_other q (child_of s) c (number_bound 5 s) h (λ e. f (h, sym (same_five q s h l e)))).visits
  ]

  visits_off : (j k : ℕ) (q s : List Bool) (m : Seen X) → length s ≡ 5 * k → j < k → Shares j s q → (Shares (suc j) s q → ⊥)
      → visits (chain k s m) q ≡ suc j
  visits_off j zero q s m l h t f = absurd (omega (arith, h))
  visits_off zero (suc k) q s m l h t f = visits_aside q s (chain k (drop 5 s) m) (omega (arith, l)) f
  visits_off (suc j) (suc k) q s m l h t f =
      let c = chain k (drop 5 s) m in
      let five : 5 ≤ length q = omega (arith, t.0) in
      let p = shares_past j q s t in
      let next = λ (u : Shares (suc j) (drop 5 s) (drop 5 q)). f (shares_on (suc j) q s five p.0 u) in
      let below = visits_off j k (drop 5 q) (drop 5 s) m (omega (arith, l, length-drop 5 s)) (omega (arith, h)) p.1 next in
      let one = child_visits (over_child q c five) refl in
      ap (λ i. visits (over i c) q) (same_number q s (sym p.0)) ∙ omega (arith, one, below)

  pub skipped_visits_off : {w : Seen X} (j k skip : ℕ) (q : List Bool) (m : Seen X) → chain k (skipped k skip) m ≡ w → j < k
      → Starts j (skip / 2 ^ (5 * (k - j))) q → (j + 1 < k → Starts (j + 1) (skip / 2 ^ (5 * (k - j - 1))) q → ⊥)
      → (Starts k skip q → ⊥) → visits w q ≡ j + 1
  skipped_visits_off j k skip q m v h s f g =
      let p = skipped k skip in
      let long : length p ≡ 5 * k = length-digits (5 * k) skip in
      let next : Shares (suc j) p q → ⊥ = λ t. elim (cases_lt (j + 1) k) [
        | inl l ↦
            let y : 5 * suc j ≡ 5 * (j + 1) = omega arith in
            let z : k - (j + 1) ≡ k - j - 1 = omega arith in
            let first = sym (first_levels (j + 1) k skip (omega (arith, l))) ∙ ap (λ i. skipped (j + 1) (skip / 2 ^ (5 * i))) z in
            f l (omega (arith, t.0), ap (λ i. take i q) (sym y) ∙ t.1 ∙ ap (λ i. take i p) y ∙ first)
        | inr l ↦
            let y : 5 * suc j ≡ 5 * k = omega (arith, h, l) in
            let whole = ap (λ i. take i p) y ∙ take_all (5 * k) p (omega (arith, long)) in
            g (omega (arith, t.0, y), ap (λ i. take i q) (sym y) ∙ t.1 ∙ whole)
      ] in
      let all = visits_off j k q p m long h (s.0, s.1 ∙ first_levels j k skip (omega (arith, h))) next in
      omega (arith, ap (λ n. visits n q) (sym v), all)
