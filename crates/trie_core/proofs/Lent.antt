-- What a node becomes as what it lends is written.
use Rattle.std.proofs.Common.{◌≡◌, ◌<◌, ◌≤◌, ◌+◌, ◌∙◌, ℕ, List, Bool, length, take, drop, get_or, set, zero, suc, cond, [], ◌∷◌, refl, sym, ap, Some, IsSome, nat_cmp, arith}
use Rattle.std.specs.FinMap.{find, get, insert, remove, len, len-insert}
use Rattle.ipnet_addr.proofs.Basics.{none_some}
use Rattle.ipnet_blocks.specs.BitStrings.{bits_cmp}
use Rattle.trie_core.specs.InnerPlaces.{place_of, child_of, at_places, child_list, IsSlot, IsUnset}
use Rattle.trie_core.specs.Nodes.{Seen}
use Rattle.trie_core.specs.InnerNodes.{node_height, HasSlots}
use Rattle.trie_core.specs.InnerCount.{marked_if, marked}
use Rattle.trie_core.specs.InnerLending.{node_with}
use Rattle.trie_core.proofs.Numbers.{place_bound}
use Rattle.trie_core.proofs.Taken.{IsTaken, taken, missing}
use Rattle.trie_core.proofs.Strings.{bits_total}
use Rattle.trie_core.proofs.Marks.{marked_get}
use Rattle.trie_core.proofs.Seen.{IsSeen, viewed, value_at}
use Rattle.trie_core.proofs.Changes.{value_slots, value_put_map, was_found, set_put, set_spare, absent}

module _ {X : Type 0} where
  pub stored_here : {vb n : ℕ} {vs : List X} {cb : ℕ} {cs : List (Seen X)} {m : Seen X} (q : List Bool) → IsSeen vb vs cb cs m → length q < 5 → n ≡ place_of q → IsUnset n vb → IsSome (get m.entries q) → ⊥
  stored_here {vb} {n} {vs} q s h k u = none_some (sym (value_at q s h) ∙ ap (λ i. find nat_cmp i (at_places 32 0 vb vs)) (sym k) ∙ sym (missing n vb vs u))

  pub stored_below : {vb n : ℕ} {vs : List X} {cb : ℕ} {cs : List (Seen X)} {m : Seen X} (q : List Bool) → IsSeen vb vs cb cs m → 5 ≤ length q → n ≡ child_of q → IsUnset n cb → IsSome (get m.entries q) → ⊥
  stored_below q s h k u = none_some (absent q s h k u)

  -- the value at a slot
  pub value_slot : {vb n at : ℕ} {vs : List X} {cb : ℕ} {cs : List (Seen X)} {m : Seen X} (q : List Bool) → IsSeen vb vs cb cs m → length q < 5 → n ≡ place_of q → IsSlot n vb at → IsTaken n at vb vs
  value_slot {vb} {n} {at} {vs} q s h k t = taken n at vb vs (omega (arith, k, place_bound 5 q h)) t s.slots.values_counted

  pub value_here : {vb n at : ℕ} {vs : List X} {cb : ℕ} {cs : List (Seen X)} {m : Seen X} (q : List Bool) (e : X) → IsSeen vb vs cb cs m → length q < 5 → n ≡ place_of q → IsTaken n at vb vs → e ≡ get_or vs at e → get m.entries q ≡ Some e
  value_here {vb} {n} {at} {vs} q e s h k t r = sym (value_at q s h) ∙ ap (λ i. find nat_cmp i (at_places 32 0 vb vs)) (sym k) ∙ t.read e ∙ ap Some (sym r)

  pub slots_here : {vb n at : ℕ} {vs : List X} {cb : ℕ} {cs : List (Seen X)} {m : Seen X} (w : X) → IsSeen vb vs cb cs m → IsTaken n at vb vs → HasSlots vb (set vs at w) cb cs
  slots_here w s t = value_slots s (t.same_ones w) s.slots.values_below

  pub lent_here : {vb n at : ℕ} {vs : List X} {cb : ℕ} {cs : List (Seen X)} {m : Seen X} (q : List Bool) (w : X) → IsSeen vb vs cb cs m → length q < 5 → n ≡ place_of q → IsTaken n at vb vs
      → viewed vb (set vs at w) cb cs ≡ node_with m q w
  lent_here q w s h k t = let r = value_put_map q w s (slots_here w s t) h k (t.written w) in λ i. record { entries = r i; spares = s.spare i; levels = s.height i }

  -- a write at a key that is there
  len_kept : (e : Seen X) (r : List Bool) (w : X) → IsSome (get e.entries r) → len (insert e.entries r w) ≡ len e.entries
  len_kept e r w o = len-insert bits_total e.entries r w ∙ ap (λ b. cond b (len e.entries) (len e.entries + 1)) o

  marked_kept : (e : Seen X) (r : List Bool) (w : X) → IsSome (get e.entries r) → marked (node_with e r w) ≡ marked e
  marked_kept e r w o = ap (λ n. marked_if n (remove e.spares [])) (len_kept e r w o)

  height_kept : (cs : List (Seen X)) (at : ℕ) (e d : Seen X) → at < length cs → e ≡ get_or cs at e → d.levels ≡ e.levels → node_height (set cs at d) ≡ node_height cs
  height_kept [] at e d h f g = absurd (omega arith)
  height_kept (c ∷ cs) zero e d h f g = omega (arith, g, ap (λ x. x.levels) f)
  height_kept (c ∷ cs) (suc at) e d h f g = omega (arith, height_kept cs at e d (omega arith) f g)

  pub lent_below : {vb at : ℕ} {vs : List X} {cb : ℕ} {cs : List (Seen X)} {m : Seen X} (q r : List Bool) (e : Seen X) (w : X) → IsSeen vb vs cb cs m → 5 ≤ length q → r ≡ drop 5 q → IsTaken (child_of q) at cb cs → e ≡ get_or cs at e → IsSome (get e.entries r)
      → viewed vb vs cb (set cs at (node_with e r w)) ≡ node_with m q w
  lent_below {vb} {at} {vs} {cb} {cs} {m} q r e w s h b t f o =
      let d = node_with e r w in
      let k = set_put q w e d s h t f (ap (λ x. insert e.entries x w) b) in
      let marks : (x : List Bool) → marked_get (Some d) x ≡ marked_get (find bits_cmp (take 5 q) (child_list cb cs)) x = λ x. ap (λ b. get b x) (marked_kept e r w o) ∙ ap (λ c. marked_get c x) (sym (was_found q e s h t f)) in
      let l = set_spare q d s h t marks in
      let n : node_height (set cs at d) + 1 ≡ m.levels = omega (arith, height_kept cs at e d t.within f refl, s.height) in
      λ i. record { entries = k i; spares = l i; levels = n i }
