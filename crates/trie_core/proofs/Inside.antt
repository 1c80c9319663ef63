-- A map without the keys inside a prefix, and what a change of a child makes of it.
use Rattle.std.proofs.Common.{◌≡◌, ℕ, ◌+◌, ◌<◌, ◌≤◌, Bool, true, false, cond, not, ◌||◌, List, [], ◌∷◌, ◌++◌, length, take, drop, get_or, set, sym, ap, subst, ◌∙◌, Option, Some, None, length-drop, arith}
use Rattle.std.specs.FinMap.{get, len, empty, find, get-empty, get-remove, get-retain_keys, same_map}
use Rattle.std.specs.FinMap as map
use Rattle.std.proofs.lemmas.List.{nil_from_length, take-take}
use Rattle.std.proofs.lemmas.Bool.{false_from_ne_true}
use Rattle.ipnet_blocks.specs.BitStrings.{bits_cmp, begins}
use Rattle.trie_core.specs.InnerPlaces.{child_of, IsUnset}
use Rattle.trie_core.specs.Nodes.{BitMap, Seen}
use Rattle.trie_core.specs.InnerNodes.{child_map, node_map, IsNode}
use Rattle.trie_core.specs.InnerCount.{all_nodes, entry_count}
use Rattle.trie_core.specs.Inside.{outside}
use Rattle.trie_core.proofs.Strings.{bits_total, bits_same, same, not_same, front, same_false}
use Rattle.ipnet_blocks.proofs.BitStrings.{begins_take, begins-under}
use Rattle.trie_core.proofs.Maps.{ListChanges, child_get, get-short, get-long, child_changes}
use Rattle.trie_core.proofs.Named.{is_node, child_put_in}
use Rattle.trie_core.proofs.Taken.{IsTaken, missing}
use Rattle.trie_core.proofs.Seen.{IsSeen, map_of, has_no_child, total-set, entries_at, entries_of}
use Rattle.trie_core.proofs.Changes.{was_found, set_slots, total-remove, IsChildless}

-- ---- beginnings

pub begins_longer : (q x : List Bool) → length x < length q → begins q x ≡ false
begins_longer q x h = false_from_ne_true _ (λ e. omega (arith, (begins_take q x e).0, h))

pub first_five : (q x : List Bool) → 5 ≤ length q → begins q x ≡ true → take 5 x ≡ take 5 q
first_five q x h e = sym (take-take 5 (length q) x h) ∙ ap (take 5) (begins_take q x e).1

pub begins_elsewhere : (q x : List Bool) → 5 ≤ length q → same (take 5 x) (take 5 q) ≡ false → begins q x ≡ false
begins_elsewhere q x h e = false_from_ne_true _ (λ b. not_same e (first_five q x h b))

pub begins_below : (q r : List Bool) → 5 ≤ length q → begins q (take 5 q ++ r) ≡ begins (drop 5 q) r
begins_below q r h = ap (λ p. begins p (take 5 q ++ r)) (sym (front q h).1) ∙ begins-under (take 5 q) (drop 5 q) r

pub begins_under_first : (q r : List Bool) → 5 ≤ length q → begins (take 5 q ++ r) q ≡ begins r (drop 5 q)
begins_under_first q r h = ap (begins (take 5 q ++ r)) (sym (front q h).1) ∙ begins-under (take 5 q) r (drop 5 q)

pub off_way_there : (q s : List Bool) → 5 ≤ length s → same (take 5 s) (take 5 q) ≡ false → begins s q ≡ false
off_way_there q s l e = begins_elsewhere s q l (same_false (take 5 q) (take 5 s) (λ p. not_same e (sym p)))

-- a string begins with q where it is q, or goes on from q
begins_split : (q x : List Bool) → begins q x ≡ (same x q || (begins (q ++ false ∷ []) x || begins (q ++ true ∷ []) x))
begins_split [] x = grind arith
begins_split (b ∷ q) x = grind (arith, begins_split q)

module _ {X : Type 0} where
  pub get-outside : (m : BitMap X) (q x : List Bool) → get (outside m q) x ≡ cond (not (begins q x)) (get m x) None
  get-outside m q x = get-retain_keys m (λ k. not (begins q k)) x (λ y e. ap (λ k. not (begins q k)) (sym (bits_same x y e)))

  same_by : (m n : BitMap X) → ((x : List Bool) → get m x ≡ get n x) → m ≡ n
  same_by m n f = same_map bits_total bits_same m n f

  -- nothing lies outside the empty string
  pub outside_all : (m : BitMap X) → outside m [] ≡ empty
  outside_all m = same_by _ _ (λ x. get-outside m [] x ∙ sym (get-empty bits_cmp x))

  three : (s a b : Bool) (o : Option X) → cond (not b) (cond (not a) (cond s None o) None) None ≡ cond (not (s || (a || b))) o None
  three s a b o = grind arith

  -- the key itself, and what goes on from it with 0 and with 1
  pub outside_split : (m : BitMap X) (q : List Bool) → outside (outside (map.remove m q) (q ++ false ∷ [])) (q ++ true ∷ []) ≡ outside m q
  outside_split m q = same_by _ _ (λ x.
      get-outside (outside (map.remove m q) (q ++ false ∷ [])) (q ++ true ∷ []) x
      ∙ ap (λ o. cond (not (begins (q ++ true ∷ []) x)) o None) (get-outside (map.remove m q) (q ++ false ∷ []) x ∙ ap (λ o. cond (not (begins (q ++ false ∷ []) x)) o None) (get-remove bits_total m q x))
      ∙ three (same x q) (begins (q ++ false ∷ []) x) (begins (q ++ true ∷ []) x) (get m x)
      ∙ ap (λ b. cond (not b) (get m x) None) (sym (begins_split q x))
      ∙ sym (get-outside m q x))

  pub outside_absent : (m : BitMap X) (q : List Bool) → ((x : List Bool) → begins q x ≡ true → get m x ≡ None) → m ≡ outside m q
  outside_absent m q f = same_by _ _ (λ x. grind (arith, f x, get-outside m q x))

  -- nothing lies outside five bits in the child below them
  pub none_left : (m : BitMap X) (q : List Bool) → length q ≡ 5 → empty ≡ outside m (drop 5 q)
  none_left m q h = sym (ap (outside m) (nil_from_length (drop 5 q) (omega (arith, length-drop 5 q, h))) ∙ outside_all m)

  -- ---- the child on the way to q

  child_outside : {vs : List (List Bool × X)} {cs ds : List (List Bool × Seen X)} (q : List Bool) (o : Option (Seen X)) → IsNode vs cs → IsNode vs ds → 5 ≤ length q → ListChanges cs (take 5 q) o ds
      → child_map o ≡ outside (child_map (find bits_cmp (take 5 q) cs)) (drop 5 q) → node_map vs ds ≡ outside (node_map vs cs) q
  child_outside {vs} {cs} {ds} q o n k h f g = same_by _ _ (λ x.
      child_changes child_get (λ x p. cond (not (begins q x)) p None) cs ds q o (get (node_map vs cs)) (get (node_map vs ds)) (get-long n) (get-long k) h f
      (λ x l. get-short k x l ∙ sym (get-short n x l) ∙ ap (λ b. cond (not b) (get (node_map vs cs) x) None) (sym (begins_longer q x (omega (arith, l, h)))))
      (λ r. ap (λ m. get m r) g ∙ get-outside (child_map (find bits_cmp (take 5 q) cs)) (drop 5 q) r ∙ ap (λ b. cond (not b) (child_get (find bits_cmp (take 5 q) cs) r) None) (sym (begins_below q r h)))
      (λ x p l e. ap (λ b. cond (not b) p None) (begins_elsewhere q x h e)) x
      ∙ sym (get-outside (node_map vs cs) q x))

  -- there is none
  pub none_inside : {vb n : ℕ} {vs : List X} {cb : ℕ} {cs : List (Seen X)} {m : Seen X} (q : List Bool) → IsSeen vb vs cb cs m → 5 ≤ length q → n ≡ child_of q → IsUnset n cb → m.entries ≡ outside m.entries q
  none_inside {cb = cb} {cs = cs} {m = m} q s h k u =
      let t = has_no_child q s h (sym (missing (child_of q) cb cs (subst (λ i. IsUnset i cb) k u))) in
      outside_absent m.entries q (λ x e.
      let l : 5 ≤ length x = omega (arith, (begins_take q x e).0, h) in
      ap (get m.entries) (sym (front x l).1 ∙ ap (λ b. b ++ drop 5 x) (first_five q x h e)) ∙ t.gets (drop 5 x))

  -- it goes, with all its entries
  pub gone : {vb at db : ℕ} {vs : List X} {cb : ℕ} {cs ds : List (Seen X)} {m : Seen X} (q : List Bool) (e : Seen X) → IsSeen vb vs cb cs m → 5 ≤ length q → IsTaken (child_of q) at cb cs → e ≡ get_or cs at e → IsChildless q m vb vs cb cs db ds e → empty ≡ outside e.entries (drop 5 q) → map_of vb vs db ds ≡ outside m.entries q
  gone {vb} {db = db} {vs = vs} {ds = ds} q e s h t r p z =
      child_outside q None s.node (is_node vb vs db ds p.slots.values_below p.slots.children_below) h p.changes (z ∙ ap (λ o. outside (child_map o) (drop 5 q)) (sym (was_found q e s h t r))) ∙ ap (λ x. outside x q) s.map

  -- it stays, with fewer entries
  pub set_outside : {vb at : ℕ} {vs : List X} {cb : ℕ} {cs : List (Seen X)} {m : Seen X} (q : List Bool) (e d : Seen X) → IsSeen vb vs cb cs m → 5 ≤ length q → IsTaken (child_of q) at cb cs → e ≡ get_or cs at e → d.entries ≡ outside e.entries (drop 5 q) → map_of vb vs cb (set cs at d) ≡ outside m.entries q
  set_outside {vb} {at} {vs} {cb} {cs} q e d s h t r f =
      child_outside q (Some d) s.node (is_node vb vs cb (set cs at d) s.slots.values_below s.slots.children_below) h (child_put_in q d cb cb cs (set cs at d) h s.slots.children_below (t.written d))
      (f ∙ ap (λ o. outside (child_map o) (drop 5 q)) (sym (was_found q e s h t r))) ∙ ap (λ x. outside x q) s.map

  pub set_entries : {vb at : ℕ} {vs : List X} {cb : ℕ} {cs : List (Seen X)} {m : Seen X} (q : List Bool) (e d : Seen X) → IsSeen vb vs cb cs m → IsTaken (child_of q) at cb cs → e ≡ get_or cs at e → len (map_of vb vs cb (set cs at d)) + len e.entries ≡ len m.entries + len d.entries
  set_entries {vb} {at} {vs} {cb} {cs} q e d s t r = omega (arith, entries_at vb vs cb (set cs at d) (set_slots q d s t), total-set entry_count cs at d e t.within, ap entry_count r, entries_of s)

  -- it has no more than the whole
  pub child_entries : {vb at : ℕ} {vs : List X} {cb : ℕ} {cs : List (Seen X)} {m : Seen X} (q : List Bool) (e : Seen X) → IsSeen vb vs cb cs m → IsTaken (child_of q) at cb cs → e ≡ get_or cs at e → len e.entries ≤ len m.entries
  child_entries {at = at} {cs = cs} q e s t r = omega (arith, total-remove entry_count cs at e t.within, ap entry_count r, entries_of s)

  pub child_nodes : {vb at : ℕ} {vs : List X} {cb : ℕ} {cs : List (Seen X)} {m : Seen X} (q : List Bool) (e : Seen X) → IsSeen vb vs cb cs m → IsTaken (child_of q) at cb cs → e ≡ get_or cs at e → all_nodes e ≤ all_nodes m
  child_nodes {at = at} {cs = cs} q e s t r = omega (arith, total-remove all_nodes cs at e t.within, ap all_nodes r, s.count)
