-- Where nothing stands strictly inside a string, in a node with skipped levels.
use Rattle.std.proofs.Common.{◌≡◌, ℕ, zero, suc, ◌+◌, ◌*◌, ◌^◌, ◌<◌, ◌≤◌, Bool, true, false, not, List, [], ◌∷◌, ◌++◌}
use Rattle.std.proofs.Common.{length, take, drop, refl, sym, ap, subst, ◌∙◌, arith, inl, inr}
use Rattle.std.specs.Prelude.{Some, None, IsTrue, ◌↔◌}
use Rattle.std.specs.Ordering.{nat_cmp}
use Rattle.std.specs.FinMap.{get, find}
use Rattle.std.proofs.lemmas.Bool.{cases_lt, cases_order}
use Rattle.std.proofs.lemmas.List.{length-drop, length-take-le, take-take, take_at, drop-take, take-append-drop}
use Rattle.std.proofs.Math.Seq.{take-add}
use Rattle.ipnet_blocks.specs.BitStrings.{begins}
use Rattle.ipnet_blocks.proofs.BitStrings.{take_begins}
use Rattle.ipnet_blocks.proofs.Strings.{length-digits}
use Rattle.trie_core.specs.Bits.{number_from}
use Rattle.trie_core.specs.InnerPlaces.{child_of, child_string, at_places}
use Rattle.trie_core.specs.Nodes.{Seen}
use Rattle.trie_core.specs.InnerChains.{over, chain, skipped, Starts, EndsIn}
use Rattle.trie_core.proofs.Marks.{set-short}
use Rattle.trie_core.proofs.Numbers.{number_bound, number-take, child_string-child_of}
use Rattle.trie_core.proofs.Seen.{value_at}
use Rattle.trie_core.proofs.Searches.{no_child_get}
use Rattle.trie_core.specs.InnerSearch.{IsLeaf}
use Rattle.trie_core.proofs.Leaves.{leaf_below, leaf_ends, no_child_inside, goes_on}
use Rattle.trie_core.proofs.Chains.{over_seen, over_taken, over_child, over_other, chain_along, chain_step, begun_on, more}

-- q begins with the way s of k levels; q ends inside it
abbrev StartsOn : ℕ → List Bool → List Bool → Type 0
StartsOn k s q = (5 * k ≤ length q) × (take (5 * k) q ≡ s)

abbrev EndsOn : ℕ → List Bool → List Bool → Type 0
EndsOn k s q = (length q < 5 * k) × (take (length q) s ≡ q)

-- the first five bits of two strings with the same number, and back
pub same_five : (q s : List Bool) → 5 ≤ length q → 5 ≤ length s → child_of s ≡ child_of q → take 5 s ≡ take 5 q
same_five q s h l e = sym (child_string-child_of s l) ∙ ap child_string e ∙ child_string-child_of q h

pub same_number : (q s : List Bool) → take 5 s ≡ take 5 q → child_of s ≡ child_of q
same_number q s e = sym (number-take 5 s) ∙ ap (number_from 5) e ∙ number-take 5 q

-- s begins with q, five bits at a time
ends_on : (q s : List Bool) → 5 ≤ length q → take 5 s ≡ take 5 q
    → take (length (drop 5 q)) (drop 5 s) ≡ drop 5 q → take (length q) s ≡ q
ends_on q s h e f =
    let n = length (drop 5 q) in
    let z : 5 + n ≡ length q = omega (arith, length-drop 5 q, h) in
    ap (λ i. take i s) (sym z) ∙ take-add 5 n s ∙ (λ i. e i ++ f i) ∙ take-append-drop 5 q

ends_past : (q s : List Bool) → 5 ≤ length q → take (length q) s ≡ q
    → (take 5 s ≡ take 5 q) × (take (length (drop 5 q)) (drop 5 s) ≡ drop 5 q)
ends_past q s h e =
    let n = length (drop 5 q) in
    let z : 5 + n ≡ length q = omega (arith, length-drop 5 q, h) in (
      sym (take-take 5 (length q) s h) ∙ ap (take 5) e,
      sym (drop-take 5 n s) ∙ ap (λ i. drop 5 (take i s)) z ∙ ap (drop 5) e,
    )

module _ {X : Type 0} where
  -- ---- past the skipped levels

  leaf_past : (k : ℕ) (q r : List Bool) (m : Seen X) → 5 * k ≤ length q → r ≡ drop (5 * k) q → IsLeaf m r ↔ IsLeaf (chain k q m) q
  leaf_past zero q r m h e = subst (λ p. IsLeaf m r ↔ IsLeaf m p) e (λ x. x, λ x. x)
  leaf_past (suc k) q r m h e =
      let t = chain_step k q r h e in
      let u = leaf_past k (drop 5 q) r m t.0 t.1 in
      let w = leaf_below (over_child q (chain k (drop 5 q) m) (more k q h).0) refl in
      (λ x. w.0 (u.0 x), λ x. u.1 (w.1 x))

  pub skipped_leaf : {P : Type 0} {w : Seen X} (k skip : ℕ) (q r : List Bool) (m : Seen X) → chain k (skipped k skip) m ≡ w
      → Starts k skip q → r ≡ drop (5 * k) q → P ↔ IsLeaf m r → P ↔ IsLeaf w q
  skipped_leaf {P} k skip q r m v s e p =
      let t = leaf_past k q r m s.0 e in
      subst (λ n. P ↔ IsLeaf n q) (sym (chain_along k q (skipped k skip) m s.0 s.1) ∙ v) (λ x. t.0 (p.0 x), λ x. p.1 (t.1 x))

  -- ---- off their way

  over_aside : (x : List Bool) (n : ℕ) (c : Seen X) → n < 32 → (5 ≤ length x → n ≡ child_of x → ⊥)
      → (get (over n c).entries x ≡ None) × (get (over n c).spares x ≡ None)
  over_aside x n c l f = elim (cases_lt (length x) 5) [
    | inl h ↦ let s = over_seen n c l in (sym (value_at x s h), set-short s.node x h)
    | inr h ↦
        let o = over_other x n c l h (f h) in
        (no_child_get o, ap (get (over n c).spares) (sym (take-append-drop 5 x)) ∙ o.spares (drop 5 x))
  ]

  leaf_short : (q s : List Bool) (c : Seen X) → 5 ≤ length s → length q < 5 → (take (length q) s ≡ q → ⊥)
      → IsLeaf (over (child_of s) c) q
  leaf_short q s c l h f = (λ b k. (aside b k).0, λ b k. (aside b k).1)
    where
      on : (x : List Bool) → take (length q) x ≡ q → 5 ≤ length x → child_of s ≡ child_of x → take (length q) s ≡ q
      on x e i n =
          let le : length q ≤ 5 = omega (arith, h) in
          sym (take-take (length q) 5 s le) ∙ ap (take (length q)) (same_five x s i l n) ∙ take-take (length q) 5 x le ∙ e

      aside : (b : Bool) (k : List Bool)
          → (get (over (child_of s) c).entries (q ++ b ∷ k) ≡ None) × (get (over (child_of s) c).spares (q ++ b ∷ k) ≡ None)
      aside b k =
          let x = q ++ b ∷ k in
          over_aside x (child_of s) c (number_bound 5 s) (λ i n. f (on x (take_at q (b ∷ k) (length q) refl) i n))

  leaf_aside : (k : ℕ) (q s : List Bool) (m : Seen X) → length s ≡ 5 * k → (StartsOn k s q → ⊥) → (EndsOn k s q → ⊥)
      → IsLeaf (chain k s m) q
  leaf_aside zero q [] m l f g = absurd (f (omega arith, refl))
  leaf_aside zero q (b ∷ s) m l f g = absurd (omega (arith, l))
  leaf_aside (suc k) q s m l f g =
      let c = chain k (drop 5 s) m in
      let n = child_of s in
      let five : 5 ≤ length s = omega (arith, l) in
      elim (cases_lt (length q) 5) [
        | inl h ↦ leaf_short q s c five h (λ e. g (omega (arith, h), e))
        | inr h ↦ elim (cases_order n (child_of q)) [
          | inl e ↦
              let starts : StartsOn k (drop 5 s) (drop 5 q) → ⊥ = λ t.
              f (omega (arith, t.0, length-drop 5 q, h), begun_on k q s l h e t.1) in
              let ends : EndsOn k (drop 5 s) (drop 5 q) → ⊥ = λ t.
              g (omega (arith, t.0, length-drop 5 q, h), ends_on q s h (same_five q s h five e) t.1) in
              let below = leaf_aside k (drop 5 q) (drop 5 s) m (omega (arith, l, length-drop 5 s)) starts ends in
              subst (λ i. IsLeaf (over i c) q) (sym e) ((leaf_below (over_child q c h) refl).0 below)
          | inr (inl p) ↦ leaf_ends (over_other q n c (number_bound 5 s) h (λ e. omega (arith, e, p)))
          | inr (inr p) ↦ leaf_ends (over_other q n c (number_bound 5 s) h (λ e. omega (arith, e, p)))
        ]
      ]

  -- ---- inside them

  full_short : (q s : List Bool) (c : Seen X) → 5 ≤ length s → length q < 5 → take (length q) s ≡ q
      → IsLeaf (over (child_of s) c) q → ⊥
  full_short q s c l h e t =
      let x = take 5 s in
      let n = child_of s in
      let five : length x ≡ 5 = length-take-le 5 s l in
      let front : take (length q) x ≡ q = take-take (length q) 5 s (omega (arith, h)) ∙ e in
      let begun = ap (λ p. begins p x) (sym front) ∙ take_begins (length q) x in
      let o = goes_on q x begun (λ y. omega (arith, ap length y, five, h)) in
      let stands = (over_taken n c (number_bound 5 s)).read c in
      let found = ap (λ i. find nat_cmp i (at_places 32 0 (2 ^ n) (c ∷ []))) (number-take 5 s) ∙ stands in
      let none = no_child_inside q x o.0 o.1 (over_seen n c (number_bound 5 s)) t.0 t.1 o.2 five (Some c) found in
      cc

  leaf_within : (k : ℕ) (q s : List Bool) (m : Seen X) → length s ≡ 5 * k → EndsOn k s q → IsLeaf (chain k s m) q → ⊥
  leaf_within zero q s m l h t = omega (arith, h.0)
  leaf_within (suc k) q s m l h t =
      let c = chain k (drop 5 s) m in
      elim (cases_lt (length q) 5) [
        | inl i ↦ full_short q s c (omega (arith, l)) i h.1 t
        | inr i ↦
            let p = ends_past q s i h.1 in
            let below = (leaf_below (over_child q c i) refl).1 (subst (λ n. IsLeaf (over n c) q) (same_number q s p.0) t) in
            let ends : EndsOn k (drop 5 s) (drop 5 q) = (omega (arith, h.0, i, length-drop 5 q), p.1) in
            leaf_within k (drop 5 q) (drop 5 s) m (omega (arith, l, length-drop 5 s)) ends below
      ]

  -- what does not begin with the skipped levels is a leaf where it does not end inside them
  pub skipped_leaf_off : {w : Seen X} (b : Bool) (k skip : ℕ) (q : List Bool) (m : Seen X) → chain k (skipped k skip) m ≡ w
      → (Starts k skip q → ⊥) → IsTrue b ↔ EndsIn k skip q → IsTrue (not b) ↔ IsLeaf w q
  skipped_leaf_off true k skip q m v f t =
      let within = leaf_within k q (skipped k skip) m (length-digits (5 * k) skip) (t.0 refl) in
      (λ h. absurd cc, λ l. absurd (within (subst (λ n. IsLeaf n q) (sym v) l)))
  skipped_leaf_off false k skip q m v f t =
      let aside = leaf_aside k q (skipped k skip) m (length-digits (5 * k) skip) f (λ e. let z = t.1 e in cc) in
      (λ h. subst (λ n. IsLeaf n q) v aside, λ l. refl)
