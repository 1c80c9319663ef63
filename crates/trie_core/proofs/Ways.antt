-- The spare nodes of a node, as a key comes or goes below it.
use Rattle.std.proofs.Common.{◌≡◌, ◌^◌, ◌<◌, ◌≤◌, Bool, cond, not, List, [], ◌∷◌, ℕ, zero, suc, length, take, drop, get_or, set, refl, sym, ap, subst, ◌∙◌, inl, inr, Option, Some, None, nat_cmp, arith}
use Rattle.std.specs.FinMap.{get, put, len, empty, find, get-empty, get-retain_keys, same_map}
use Rattle.std.specs.FinMap as map
use Rattle.ipnet_blocks.specs.BitStrings.{bits_cmp, begins}
use Rattle.trie_core.specs.InnerPlaces.{child_of, at_places, child_list, IsUnset}
use Rattle.trie_core.specs.Nodes.{BitSet, Seen}
use Rattle.trie_core.specs.InnerNodes.{IsNode}
use Rattle.trie_core.specs.InnerCount.{marked, spare_set}
use Rattle.trie_core.specs.Ways.{off_way}
use Rattle.trie_core.proofs.Strings.{bits_total, bits_same}
use Rattle.trie_core.proofs.Maps.{ListChanges, child_changes}
use Rattle.trie_core.proofs.Named.{is_node, child_put_in, child_found}
use Rattle.trie_core.proofs.Taken.{IsTaken, missing}
use Rattle.trie_core.proofs.Count.{spare_pos}
use Rattle.trie_core.proofs.Seen.{IsSeen}
use Rattle.trie_core.proofs.Marks.{marked_get, marked-other, marked-root, root_if, set-short, set-long}
use Rattle.trie_core.proofs.Inside.{begins_longer, begins_under_first, off_way_there}
use Rattle.trie_core.proofs.Changes.{spare_insert, was_found}
use Rattle.std.proofs.lemmas.Bool.{cases_lt}

pub get-off : (b : BitSet) (q x : List Bool) → get (off_way b q) x ≡ cond (not (begins x q)) (get b x) None
get-off b q x = get-retain_keys b (λ s. not (begins s q)) x (λ y e. ap (λ s. not (begins s q)) (sym (bits_same x y e)))

pub no_choice : {Y : Type 0} (b : Bool) → ◌≡◌ {A = Option Y} (cond b None None) None
no_choice b = grind arith

pub off_none : (b : BitSet) (q : List Bool) → b ≡ empty → off_way b q ≡ empty
off_none b q e = same_map bits_total bits_same _ _ (λ x. get-off b q x ∙ ap (λ o. cond (not (begins x q)) o None) (ap (λ c. get c x) e ∙ get-empty bits_cmp x) ∙ no_choice (not (begins x q)) ∙ sym (get-empty bits_cmp x))

root_if_some : (n : ℕ) → 1 ≤ n → root_if n ≡ None
root_if_some zero h = absurd (omega (arith, h))
root_if_some (suc n) h = refl

module _ {X : Type 0} where
  -- ---- a key comes

  set_off : {vs us : List (List Bool × X)} {cs ds : List (List Bool × Seen X)} (q : List Bool) (o : Option (Seen X)) → IsNode vs cs → IsNode us ds → 5 ≤ length q → ListChanges cs (take 5 q) o ds
      → ((r : List Bool) → marked_get o r ≡ cond (not (begins r (drop 5 q))) (marked_get (find bits_cmp (take 5 q) cs) r) None) → spare_set ds ≡ off_way (spare_set cs) q
  set_off {cs = cs} {ds = ds} q o n k h f g = same_map bits_total bits_same _ _ (λ x.
      child_changes marked_get (λ x p. cond (not (begins x q)) p None) cs ds q o (get (spare_set cs)) (get (spare_set ds)) (set-long n) (set-long k) h f
      (λ x l. set-short k x l ∙ sym (ap (λ o. cond (not (begins x q)) o None) (set-short n x l) ∙ no_choice (not (begins x q))))
      (λ r. g r ∙ ap (λ b. cond (not b) (marked_get (find bits_cmp (take 5 q) cs) r) None) (sym (begins_under_first q r h)))
      (λ x p l e. ap (λ b. cond (not b) p None) (off_way_there q x l e)) x
      ∙ sym (get-off (spare_set cs) q x))

  -- the marks of a child that got a key
  marked_off : (q : List Bool) (v : X) (e d : Seen X) → d.entries ≡ map.insert e.entries q v → d.spares ≡ off_way e.spares q → (r : List Bool) → get (marked d) r ≡ cond (not (begins r q)) (get (marked e) r) None
  marked_off q v e d f g [] = marked-root d ∙ root_if_some (len d.entries) (spare_pos (len d.entries) (spare_insert e.entries q v f))
  marked_off q v e d f g (y ∷ ys) = marked-other d y ys ∙ ap (λ b. get b (y ∷ ys)) g ∙ get-off e.spares q (y ∷ ys) ∙ ap (λ o. cond (not (begins (y ∷ ys) q)) o None) (sym (marked-other e y ys))

  -- the marks of a new child with a key
  marked_new : (q : List Bool) (v : X) (d : Seen X) → d.entries ≡ map.insert empty q v → d.spares ≡ empty → (r : List Bool) → get (marked d) r ≡ None
  marked_new q v d f g [] = marked-root d ∙ root_if_some (len d.entries) (spare_pos (len d.entries) (spare_insert empty q v f))
  marked_new q v d f g (y ∷ ys) = marked-other d y ys ∙ ap (λ b. get b (y ∷ ys)) g ∙ get-empty bits_cmp (y ∷ ys)

  -- within the node no spare node is on the way
  pub short_off : {vb : ℕ} {vs : List X} {cb : ℕ} {cs : List (Seen X)} {m : Seen X} (q : List Bool) → IsSeen vb vs cb cs m → length q < 5 → m.spares ≡ off_way m.spares q
  short_off {m = m} q s h = same_map bits_total bits_same _ _ (λ x. elim (cases_lt (length x) 5) [
    | inl l ↦ let z : get m.spares x ≡ None = ap (λ b. get b x) (sym s.spare) ∙ set-short s.node x l in z ∙ sym (get-off m.spares q x ∙ ap (λ o. cond (not (begins x q)) o None) z ∙ no_choice (not (begins x q)))
    | inr l ↦ ap (λ b. cond (not b) (get m.spares x) None) (sym (begins_longer x q (omega (arith, l, h)))) ∙ sym (get-off m.spares q x)
  ])

  -- in the child on the way, which is e and becomes d
  pub below_off : {vb at : ℕ} {vs : List X} {cb : ℕ} {cs : List (Seen X)} {m : Seen X} (q : List Bool) (v : X) (e d : Seen X) → IsSeen vb vs cb cs m → 5 ≤ length q → IsTaken (child_of q) at cb cs → e ≡ get_or cs at e → d.entries ≡ map.insert e.entries (drop 5 q) v → d.spares ≡ off_way e.spares (drop 5 q)
      → spare_set (child_list cb (set cs at d)) ≡ off_way m.spares q
  below_off {vb} {at} {vs} {cb} {cs} q v e d s h t r f g =
      set_off q (Some d) s.node (is_node vb vs cb (set cs at d) s.slots.values_below s.slots.children_below) h (child_put_in q d cb cb cs (set cs at d) h s.slots.children_below (t.written d))
      (λ x. marked_off (drop 5 q) v e d f g x ∙ ap (λ o. cond (not (begins x (drop 5 q))) (marked_get o x) None) (sym (was_found q e s h t r)))
      ∙ ap (λ b. off_way b q) s.spare

  -- with a new child, which is d
  pub hung_off : {vb n db : ℕ} {vs : List X} {cb : ℕ} {cs ls : List (Seen X)} {m : Seen X} (ds : List (Seen X)) (q : List Bool) (v : X) (d : Seen X) → IsSeen vb vs cb cs m → 5 ≤ length q → n ≡ child_of q → IsUnset n cb → ls ≡ cs → at_places 32 0 db ds ≡ put nat_cmp n d (at_places 32 0 cb ls) → db < 2 ^ 32
      → d.entries ≡ map.insert empty (drop 5 q) v → d.spares ≡ empty → spare_set (child_list db ds) ≡ off_way m.spares q
  hung_off {vb} {n} {db} {vs} {cb} {cs} {ls} ds q v d s h k u l e b f z =
      let w : at_places 32 0 db ds ≡ put nat_cmp (child_of q) d (at_places 32 0 cb cs) = e ∙ (λ i. put nat_cmp (k i) d (at_places 32 0 cb (l i))) in
      let none : find bits_cmp (take 5 q) (child_list cb cs) ≡ None = child_found q cb cs h s.slots.children_below ∙ sym (missing (child_of q) cb cs (subst (λ i. IsUnset i cb) k u)) in
      set_off q (Some d) s.node (is_node vb vs db ds s.slots.values_below b) h (child_put_in q d cb db cs ds h s.slots.children_below w)
      (λ x. marked_new (drop 5 q) v d f z x ∙ sym (ap (λ o. cond (not (begins x (drop 5 q))) (marked_get o x) None) none ∙ no_choice (not (begins x (drop 5 q)))))
      ∙ ap (λ b. off_way b q) s.spare
