-- The spare nodes as a key goes below a node, and every node stays.
use Rattle.std.proofs.Common.{◌≡◌, ◌%◌, ◌<◌, ◌≤◌, inl, inr, Bool, true, false, cond, List, [], ◌∷◌, ◌++◌, ℕ, length, take, drop, get_or, set, refl, sym, ap, subst, ◌∙◌, Option, Some, None, is_some, ◌↔◌, ◌⊎◌, append_assoc, length-append, arith}
use Rattle.std.specs.FinMap.{get, len, find}
use Rattle.std.specs.FinMap as map
use Rattle.std.proofs.lemmas.Bool.{both_ways}
use Rattle.ipnet_blocks.specs.BitStrings.{bits_cmp, begins}
use Rattle.trie_core.specs.InnerPlaces.{child_of, child_list}
use Rattle.trie_core.specs.Nodes.{BitMap, BitSet, Seen}
use Rattle.trie_core.specs.InnerNodes.{node_map, IsNode}
use Rattle.trie_core.specs.InnerCount.{marked, spare_set}
use Rattle.trie_core.specs.Ways.{IsIdle, IsKept}
use Rattle.trie_core.proofs.Strings.{same, front}
use Rattle.ipnet_blocks.proofs.BitStrings.{begins_take}
use Rattle.trie_core.proofs.Maps.{ListChanges, child_get, remove_absent, each_string, under_long, found_changed, get-below}
use Rattle.trie_core.proofs.Marks.{marked_get, marked-other, marked-root, root_if, set-short, set-long, set-changed, set-below}
use Rattle.trie_core.proofs.Named.{is_node, child_put_in}
use Rattle.trie_core.proofs.Taken.{IsTaken}
use Rattle.trie_core.proofs.Seen.{IsSeen, map_of}
use Rattle.trie_core.proofs.Changes.{was_found}
use Rattle.trie_core.proofs.Left.{none_found, no_keys, root_none}
use Rattle.trie_core.proofs.Inside.{off_way_there, begins_under_first}

module _ {X : Type 0} where
  root_some : (m : BitMap X) → len m ≡ 0 → is_some (root_if (len m)) ≡ true
  root_some m e = ap (λ n. is_some (root_if n)) e

  -- a child at r below five bits that had the marks of e, and has those of d once p went from its map
  module _ (p : List Bool) (e d : Seen X) (gone : d.entries ≡ map.remove e.entries p) (kept : IsKept p e.entries e.spares d.entries d.spares) where
    root_to_by : (k : (x : List Bool) → get d.entries x ≡ None) → (o : Option X) → get e.entries p ≡ o → (is_some (get (marked e) []) ≡ true) ⊎ ((is_some (get e.entries p) ≡ true) × ((x : List Bool) → get d.entries x ≡ None))
    root_to_by k None f = inl (ap is_some (marked-root e) ∙ root_some e.entries (ap len (sym (remove_absent e.entries p f) ∙ sym gone) ∙ no_keys d.entries k))
    root_to_by k (Some v) f = inr (ap is_some f, k)

    -- what shows and holds at r
    pub record IsStill (r : List Bool) : Type 0 where
      pub fives : length r % 5 ≡ 0
      pub none : (x : List Bool) → get d.entries (r ++ x) ≡ None

    still_shows : (r : List Bool) → begins r p ≡ true → is_some (get (marked d) r) ≡ true → (is_some (get (marked e) r) ≡ true) ⊎ ((is_some (get e.entries p) ≡ true) × IsStill r)
    still_shows [] h s = elim (root_to_by (root_none (len d.entries) d.entries refl (sym (ap is_some (marked-root d)) ∙ s)) (get e.entries p) refl) [
      | inl a ↦ inl a
      | inr a ↦ inr (a.0, record { fives = refl; none = a.1 })
    ]
    still_shows (y ∷ ys) h s = elim ((kept.on (y ∷ ys) h).0 (sym (ap is_some (marked-other d y ys)) ∙ s)) [
      | inl a ↦ inl (ap is_some (marked-other e y ys) ∙ a)
      | inr a ↦ inr (a.0, record { fives = a.1.fives; none = a.1.none })
    ]

    still_stays : (r : List Bool) → begins r p ≡ true → is_some (get (marked e) r) ≡ true → is_some (get (marked d) r) ≡ true
    still_stays [] h s =
        let k = root_none (len e.entries) e.entries refl (sym (ap is_some (marked-root e)) ∙ s) in
        ap is_some (marked-root d) ∙ root_some d.entries (ap len (gone ∙ remove_absent e.entries p (k p)) ∙ no_keys e.entries k)
    still_stays (y ∷ ys) h s = ap is_some (marked-other d y ys) ∙ (kept.on (y ∷ ys) h).1 (inl (sym (ap is_some (marked-other e y ys)) ∙ s))

    still_comes : (r : List Bool) → begins r p ≡ true → is_some (get e.entries p) ≡ true → IsStill r → is_some (get (marked d) r) ≡ true
    still_comes [] h f s = ap is_some (marked-root d) ∙ root_some d.entries (no_keys d.entries s.none)
    still_comes (y ∷ ys) h f s = ap is_some (marked-other d y ys) ∙ (kept.on (y ∷ ys) h).1 (inr (f, record { below = omega (arith, s.fives); fives = s.fives; none = s.none }))

    still_off : (r : List Bool) → begins r p ≡ false → get (marked d) r ≡ get (marked e) r
    still_off [] h = cc
    still_off (y ∷ ys) h = marked-other d y ys ∙ kept.off (y ∷ ys) h ∙ sym (marked-other e y ys)

  -- ---- from a child to its node

  module _ {vs us : List (List Bool × X)} {cs ds : List (List Bool × Seen X)} (q : List Bool) (e d : Seen X) (n : IsNode vs cs) (k : IsNode us ds) (h : 5 ≤ length q) (c : ListChanges cs (take 5 q) (Some d) ds) (f : find bits_cmp (take 5 q) cs ≡ Some e)
      (gone : d.entries ≡ map.remove e.entries (drop 5 q)) (kept : IsKept (drop 5 q) e.entries e.spares d.entries d.spares) where
    old_at : (r : List Bool) → get (spare_set cs) (take 5 q ++ r) ≡ get (marked e) r
    old_at r = set-below n (take 5 q) r (front q h).0 ∙ ap (λ o. marked_get o r) f

    new_at : (r : List Bool) → get (spare_set ds) (take 5 q ++ r) ≡ get (marked d) r
    new_at r = set-below k (take 5 q) r (front q h).0 ∙ ap (λ o. marked_get o r) (found_changed cs ds q (Some d) c)

    key_at : get (node_map vs cs) q ≡ get e.entries (drop 5 q)
    key_at = ap (get (node_map vs cs)) (sym (front q h).1) ∙ get-below n (take 5 q) (drop 5 q) (front q h).0 ∙ ap (λ o. child_get o (drop 5 q)) f

    deeper : (r x : List Bool) → get (node_map us ds) ((take 5 q ++ r) ++ x) ≡ get d.entries (r ++ x)
    deeper r x = ap (get (node_map us ds)) (append_assoc (take 5 q) r x) ∙ get-below k (take 5 q) (r ++ x) (front q h).0 ∙ ap (λ o. child_get o (r ++ x)) (found_changed cs ds q (Some d) c)

    in_on : (r : List Bool) → begins (take 5 q ++ r) q ≡ true → (is_some (get (spare_set ds) (take 5 q ++ r)) ≡ true) ↔ ((is_some (get (spare_set cs) (take 5 q ++ r)) ≡ true) ⊎ ((is_some (get (node_map vs cs) q) ≡ true) × IsIdle (node_map us ds) (take 5 q ++ r)))
    in_on r b =
        let i = sym (begins_under_first q r h) ∙ b in (
          λ s. elim (still_shows (drop 5 q) e d gone kept r i (sym (ap is_some (new_at r)) ∙ s)) [
            | inl a ↦ inl (ap is_some (old_at r) ∙ a)
            | inr a ↦ inr (ap is_some key_at ∙ a.0, record { below = under_long q r h; fives = omega (arith, a.1.fives, length-append (take 5 q) r, (front q h).0); none = λ x. deeper r x ∙ a.1.none x })
          ],
          λ s. elim s [
            | inl a ↦ ap is_some (new_at r) ∙ still_stays (drop 5 q) e d gone kept r i (sym (ap is_some (old_at r)) ∙ a)
            | inr a ↦ ap is_some (new_at r) ∙ still_comes (drop 5 q) e d gone kept r i (sym (ap is_some key_at) ∙ a.0) (record { fives = omega (arith, a.1.fives, length-append (take 5 q) r, (front q h).0); none = λ x. sym (deeper r x) ∙ a.1.none x })
          ],
        )

    in_off : (r : List Bool) → begins (take 5 q ++ r) q ≡ false → get (spare_set ds) (take 5 q ++ r) ≡ get (spare_set cs) (take 5 q ++ r)
    in_off r b = new_at r ∙ still_off (drop 5 q) e d gone kept r (sym (begins_under_first q r h) ∙ b) ∙ sym (old_at r)

    off_elsewhere : (s : List Bool) → 5 ≤ length s → same (take 5 s) (take 5 q) ≡ false → get (spare_set ds) s ≡ get (spare_set cs) s
    off_elsewhere s l e =
        set-changed cs q (Some d) k c s l ∙ ap (λ t. marked_get (cond t (Some d) (find bits_cmp (take 5 s) cs)) (drop 5 s)) e ∙ sym (set-long n s l)

    abbrev On : List Bool → Type 0
    On s = begins s q ≡ true → (is_some (get (spare_set ds) s) ≡ true) ↔ ((is_some (get (spare_set cs) s) ≡ true) ⊎ ((is_some (get (node_map vs cs) q) ≡ true) × IsIdle (node_map us ds) s))

    on_short : (s : List Bool) → length s < 5 → On s
    on_short s l b = (
      λ t. absurd (none_found (set-short k s l) t),
      λ t. elim t [
        | inl a ↦ absurd (none_found (set-short n s l) a)
        | inr a ↦ absurd (omega (arith, a.1.below, l))
      ],
    )

    pub kept_node : IsKept q (node_map vs cs) (spare_set cs) (node_map us ds) (spare_set ds)
    kept_node = record {
      off = each_string (λ s. begins s q ≡ false → get (spare_set ds) s ≡ get (spare_set cs) s) q (λ s l b. set-short k s l ∙ sym (set-short n s l)) in_off (λ s l e b. off_elsewhere s l e);
      on = each_string On q on_short in_on (λ s l e b. absurd (both_ways _ (off_way_there q s l e) b));
    }

  -- ---- a node that was seen as m

  -- within the node no spare node is on the way
  pub kept_short : {vb : ℕ} {vs : List X} {cb : ℕ} {cs : List (Seen X)} {m : Seen X} {n : BitMap X} (q : List Bool) → IsSeen vb vs cb cs m → length q < 5 → IsKept q m.entries m.spares n m.spares
  kept_short {m = m} q s h = record {
    off = λ x b. refl;
    on = λ x b. (
      λ t. inl t,
      λ t. elim t [
        | inl a ↦ a
        | inr a ↦ absurd (omega (arith, a.1.below, (begins_take x q b).0, h))
      ],
    );
  }

  -- where q was no key nothing changes
  pub kept_absent : (q : List Bool) (m : Seen X) → get m.entries q ≡ None → IsKept q m.entries m.spares m.entries m.spares
  kept_absent q m e = record {
    off = λ x b. refl;
    on = λ x b. (
      λ t. inl t,
      λ t. elim t [
        | inl a ↦ a
        | inr a ↦ let z : false ≡ true = sym (ap is_some e) ∙ a.0 in cc
      ],
    );
  }

  -- in the child on the way, which is e and becomes d
  pub kept_set : {vb at : ℕ} {vs : List X} {cb : ℕ} {cs : List (Seen X)} {m : Seen X} (q : List Bool) (e d : Seen X) → IsSeen vb vs cb cs m → 5 ≤ length q → IsTaken (child_of q) at cb cs → e ≡ get_or cs at e → d.entries ≡ map.remove e.entries (drop 5 q) → IsKept (drop 5 q) e.entries e.spares d.entries d.spares
      → IsKept q m.entries m.spares (map_of vb vs cb (set cs at d)) (spare_set (child_list cb (set cs at d)))
  kept_set {vb} {at} {vs} {cb} {cs} q e d s h t r g k =
      subst (λ (w : BitMap X × BitSet). IsKept q w.0 w.1 (map_of vb vs cb (set cs at d)) (spare_set (child_list cb (set cs at d)))) (λ i. (s.map i, s.spare i))
      (kept_node q e d s.node (is_node vb vs cb (set cs at d) s.slots.values_below s.slots.children_below) h (child_put_in q d cb cb cs (set cs at d) h s.slots.children_below (t.written d)) (was_found q e s h t r) g k)
