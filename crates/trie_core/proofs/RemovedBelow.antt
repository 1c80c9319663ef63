-- What becomes of a node with skipped levels, as a key goes.
use Rattle.std.proofs.Common.{◌≡◌, ℕ, zero, suc, ◌+◌, ◌-◌, ◌*◌, ◌^◌, ◌<◌, ◌≤◌, Bool, true, false, List, [], ◌∷◌, length, take, drop, refl, sym, ap, subst, ◌∙◌, inl, inr, Option, None, IsTrue, ◌↔◌, length-drop, arith}
use Rattle.std.specs.FinMap.{empty, empty_of_len, len, len-empty}
use Rattle.ipnet_blocks.specs.BitStrings.{bits_cmp}
use Rattle.std.proofs.lemmas.Bool.{cases_lt, cases_order}
use Rattle.trie_core.specs.InnerPlaces.{child_of}
use Rattle.trie_core.specs.Nodes.{Seen}
use Rattle.trie_core.specs.Ways.{IsPruned}
use Rattle.trie_core.specs.InnerNodes.{HasSlots}
use Rattle.trie_core.specs.InnerCount.{spare_count}
use Rattle.trie_core.specs.InnerRemovedBelow.{IsRemovedBelow, IsBare, IsFull}
use Rattle.trie_core.specs.InnerChains.{over, chain, skipped, Starts}
use Rattle.ipnet_blocks.proofs.Strings.{length-digits}
use Rattle.trie_core.proofs.Maps.{remove_absent}
use Rattle.trie_core.proofs.Numbers.{number_bound}
use Rattle.trie_core.proofs.Seen.{seen, viewed, bare, left_bare, no_bits}
use Rattle.std.proofs.lemmas.List.{nil_from_length}
use Rattle.trie_core.proofs.Changes.{was, set_taken, set_count, set_height, was_lower, pruned, childless}
use Rattle.trie_core.proofs.Left.{left_short, left_none, left_set, left_removed}
use Rattle.trie_core.proofs.Chains.{over_seen, over_taken, over_free, chain_none, chain_along, chain_step, begun_on}

module _ {X : Type 0} where
  pub over_full : (n : ℕ) (c : Seen X) → n < 32 → IsFull (over n c)
  over_full n c l z e = let b = left_bare (over_seen n c l) (empty_of_len (over n c).entries e) z in omega (arith, b.1)

  pub chain_full : (k : ℕ) (q : List Bool) (d : Seen X) → IsFull d → IsFull (chain k q d)
  chain_full zero q d f = f
  chain_full (suc k) q d f = over_full (child_of q) (chain k (drop 5 q) d) (number_bound 5 q)

  -- one level, where what is below stays
  over_withdrawn : {gone : ℕ} {out : Option X} (q : List Bool) (e d : Seen X) → 5 ≤ length q → IsFull d → IsRemovedBelow (drop 5 q) e gone out d → IsRemovedBelow q (over (child_of q) e) gone out (over (child_of q) d)
  over_withdrawn q e d h f x =
      let n = child_of q in
      let s = over_seen n e (number_bound 5 q) in
      let w = over_taken n e (number_bound 5 q) in
      record {
        value = x.value ∙ was q e s h w refl;
        map = set_taken q e d s h w refl x.map;
        spares = left_set (λ y. false) q s h (λ y l z. refl) (λ y. false) e d w refl (λ y. refl) x.spares f;
        count = omega (arith, set_count q e d s w refl, x.count);
        levels = omega (arith, set_height 0 d s, was_lower q e s w refl, x.levels);
        within = omega (arith, x.within, length-drop 5 q);
      }

  pub chain_withdrawn : {gone : ℕ} {out : Option X} (k : ℕ) (q r : List Bool) (e d : Seen X) → 5 * k ≤ length q → r ≡ drop (5 * k) q → IsFull d → IsRemovedBelow r e gone out d → IsRemovedBelow q (chain k q e) gone out (chain k q d)
  chain_withdrawn {gone} {out} zero q r e d l f h x = subst (λ p. IsRemovedBelow p e gone out d) f x
  chain_withdrawn (suc k) q r e d l f h x =
      let t = chain_step k q r l f in
      over_withdrawn q (chain k (drop 5 q) e) (chain k (drop 5 q) d) (omega (arith, l)) (chain_full k (drop 5 q) d h) (chain_withdrawn k (drop 5 q) r e d t.0 t.1 h x)

  -- one level, where what is below is bare, and goes
  over_gone : {gone : ℕ} {out : Option X} (q : List Bool) (e d : Seen X) → 5 ≤ length q → IsBare d → IsRemovedBelow (drop 5 q) e gone out d → IsRemovedBelow q (over (child_of q) e) (gone + 1) out d
  over_gone {gone} {out} q e d h b x =
      let n = child_of q in
      let s = over_seen n e (number_bound 5 q) in
      let w = over_taken n e (number_bound 5 q) in
      let p = childless {b = 2 ^ n} {ds = []} q e s h w refl refl refl in
      let u : 2 ^ n - 2 ^ n ≡ 0 = omega arith in
      subst (λ y. IsRemovedBelow q (over n e) (gone + 1) out y) ((λ i. viewed 0 [] (u i) []) ∙ sym b.same) (record {
        value = x.value ∙ was q e s h w refl;
        map = pruned q e d s h w refl p x.map b.entries;
        spares = left_removed (λ y. false) q s h (λ y l t. refl) (λ y. false) e d w refl (λ y. refl) x.spares b.spares refl refl;
        count = omega (arith, p.count, x.count, b.count);
        levels = p.height;
        within = omega (arith, h, x.within, length-drop 5 q);
      })

  pub chain_gone : {gone : ℕ} {out : Option X} (k : ℕ) (q r : List Bool) (e d : Seen X) → 5 * k ≤ length q → r ≡ drop (5 * k) q → IsBare d → IsRemovedBelow r e gone out d → IsRemovedBelow q (chain k q e) (gone + k) out d
  chain_gone {gone} {out} zero q r e d l f b x =
      let u : gone ≡ gone + 0 = omega arith in
      subst (λ i. IsRemovedBelow q e i out d) u (subst (λ p. IsRemovedBelow p e gone out d) f x)
  chain_gone {gone} {out} (suc k) q r e d l f b x =
      let t = chain_step k q r l f in
      let u : gone + k + 1 ≡ gone + suc k = omega arith in
      subst (λ i. IsRemovedBelow q (over (child_of q) (chain k (drop 5 q) e)) i out d) u (over_gone q (chain k (drop 5 q) e) d (omega (arith, l)) b (chain_gone k (drop 5 q) r e d t.0 t.1 b x))

  -- off the way nothing goes
  pruned_off : (k : ℕ) (q s : List Bool) (m : Seen X) → length s ≡ 5 * k → ((5 * k ≤ length q) × (take (5 * k) q ≡ s) → ⊥) → IsPruned q (chain k s m).spares (chain k s m).entries (chain k s m).spares
  pruned_off zero q [] m l f = absurd (f (omega arith, refl))
  pruned_off zero q (b ∷ s) m l f = absurd (omega (arith, l))
  pruned_off (suc k) q s m l f =
      let c = chain k (drop 5 s) m in
      let n = child_of s in
      let o = over_seen n c (number_bound 5 s) in
      elim (cases_lt (length q) 5) [
        | inl h ↦ left_short (λ y. false) q o h (λ y. refl)
        | inr h ↦ elim (cases_order n (child_of q)) [
          | inl e ↦
              let off : (5 * k ≤ length (drop 5 q)) × (take (5 * k) (drop 5 q) ≡ drop 5 s) → ⊥ = λ t. f (omega (arith, t.0, length-drop 5 q, h), begun_on k q s l h e t.1) in
              let a : length (drop 5 s) ≡ 5 * k = omega (arith, l, length-drop 5 s) in
              subst (λ i. IsPruned q (over i c).spares (over i c).entries (over i c).spares) (sym e)
              (left_set (λ y. false) q (over_seen (child_of q) c (number_bound 5 q)) h (λ y t z. refl) (λ y. false) c c (over_taken (child_of q) c (number_bound 5 q)) refl (λ y. refl) (pruned_off k (drop 5 q) (drop 5 s) m a off) (full_off k (drop 5 q) (drop 5 s) m a off))
          | inr (inl p) ↦ left_none (λ y. false) q o h (λ y t z. refl) refl (over_free (child_of q) n (λ e. omega (arith, e, p)))
          | inr (inr p) ↦ left_none (λ y. false) q o h (λ y t z. refl) refl (over_free (child_of q) n (λ e. omega (arith, e, p)))
        ]
      ]
    where
      full_off : (k : ℕ) (q s : List Bool) (m : Seen X) → length s ≡ 5 * k → ((5 * k ≤ length q) × (take (5 * k) q ≡ s) → ⊥) → IsFull (chain k s m)
      full_off zero q [] m l f = absurd (f (omega arith, refl))
      full_off zero q (b ∷ s) m l f = absurd (omega (arith, l))
      full_off (suc k) q s m l f = over_full (child_of s) (chain k (drop 5 s) m) (number_bound 5 s)

  pub chain_off : (k : ℕ) (q s : List Bool) (m : Seen X) → length s ≡ 5 * k → ((5 * k ≤ length q) × (take (5 * k) q ≡ s) → ⊥) → IsRemovedBelow q (chain k s m) 0 None (chain k s m)
  chain_off k q s m l f =
      let a = chain_none k q s m l f in
      record {
        value = sym a;
        map = sym (remove_absent (chain k s m).entries q a);
        spares = pruned_off k q s m l f;
        count = omega arith;
        levels = omega arith;
        within = omega arith;
      }

  -- ---- a node

  pub skipped_off : (k skip : ℕ) (q : List Bool) (m w : Seen X) → chain k (skipped k skip) m ≡ w → (Starts k skip q → ⊥) → IsRemovedBelow q w 0 None w
  skipped_off k skip q m w v f = subst (λ n. IsRemovedBelow q n 0 None n) v (chain_off k q (skipped k skip) m (length-digits (5 * k) skip) f)

  pub skipped_withdrawn : {gone : ℕ} {out : Option X} {q r : List Bool} {w : Seen X} (k skip : ℕ) (e d : Seen X) → chain k (skipped k skip) e ≡ w → Starts k skip q → r ≡ drop (5 * k) q → IsFull d → IsRemovedBelow r e gone out d → IsRemovedBelow q w gone out (chain k (skipped k skip) d)
  skipped_withdrawn {gone} {out} {q} {r} {w} k skip e d v s f h x =
      let a = chain_along k q (skipped k skip) e s.0 s.1 in
      let b = chain_along k q (skipped k skip) d s.0 s.1 in
      subst (λ n. IsRemovedBelow q n gone out (chain k (skipped k skip) d)) (sym a ∙ v) (subst (λ n. IsRemovedBelow q (chain k q e) gone out n) (sym b) (chain_withdrawn k q r e d s.0 f h x))

  pub skipped_gone : {gone : ℕ} {out : Option X} {q r : List Bool} {w : Seen X} (k skip : ℕ) (e d : Seen X) → chain k (skipped k skip) e ≡ w → Starts k skip q → r ≡ drop (5 * k) q → IsBare d → IsRemovedBelow r e gone out d → IsRemovedBelow q w (gone + k) out d
  skipped_gone {gone} {out} {q} {r} {w} k skip e d v s f b x =
      let a = chain_along k q (skipped k skip) e s.0 s.1 in
      subst (λ n. IsRemovedBelow q n (gone + k) out d) (sym a ∙ v) (chain_gone k q r e d s.0 f b x)

  pub skipped_full : (k : ℕ) (s : List Bool) (d : Seen X) → 0 < k → IsFull (chain k s d)
  skipped_full zero s d l = absurd (omega (arith, l))
  skipped_full (suc k) s d l = over_full (child_of s) (chain k (drop 5 s) d) (number_bound 5 s)

  -- ---- a branch

  pub branch_bare : {vb cb : ℕ} {vs : List X} {cs : List (Seen X)} {m : Seen X} → HasSlots vb vs cb cs → viewed vb vs cb cs ≡ m → vb ≡ 0 → cb ≡ 0 → IsBare m
  branch_bare {vb} {cb} {vs} {cs} h v e f =
      let a = (no_bits vb _ h.values_counted).0 e in
      let c = (no_bits cb _ h.children_counted).0 f in
      let b = bare (seen h v) a c in
      record { same = sym v ∙ (λ i. viewed (e i) (nil_from_length vs a i) (f i) (nil_from_length cs c i)); entries = b.0; spares = b.1; count = b.2 }

  pub branch_full : {vb cb : ℕ} {vs : List X} {cs : List (Seen X)} {m : Seen X} → HasSlots vb vs cb cs → viewed vb vs cb cs ≡ m → (vb ≡ 0 → cb ≡ 0 → ⊥) → IsFull m
  branch_full {vb} {cb} h v f z e =
      let b = left_bare (seen h v) (empty_of_len _ e) z in
      f ((no_bits vb _ h.values_counted).1 b.0) ((no_bits cb _ h.children_counted).1 b.1)

  -- a test of it tells both
  pub bare_test : {d : Seen X} (b : Bool) → (IsTrue b → IsBare d) → (b ≡ false → IsFull d)
      → IsTrue b ↔ ((d.entries ≡ empty) × (spare_count d ≡ 0))
  bare_test true f g = (λ h. ((f refl).entries, (f refl).spares), λ t. refl)
  bare_test {d} false f g = (λ h. absurd (cc), λ t. absurd (g refl t.1 (ap len t.0 ∙ len-empty bits_cmp X)))
