-- The spare nodes that are left as keys go below a node, and the nodes on their way that lead nowhere.
use Rattle.std.proofs.Common.{◌≡◌, ◌%◌, ◌<◌, ◌≤◌, Bool, true, false, cond, not, List, [], ◌∷◌, ◌++◌, ℕ, zero, suc, ◌-◌, ◌^◌, length, take, drop, get_or, set, refl, sym, ap, subst, ◌∙◌, inl, inr, Option, Some, None, is_some, ◌↔◌, append_assoc, append-nil, length-append, arith}
use Rattle.std.specs.List.{remove as remove_at}
use Rattle.std.specs.FinMap.{get, len, empty, find, remove, entries, get-empty, get-entries, get-remove, len-empty, len-entries, empty_of_len, same_map}
use Rattle.std.proofs.Math.Seq.{take-length}
use Rattle.std.proofs.lemmas.Bool.{both_ways, cases_lt}
use Rattle.ipnet_blocks.specs.BitStrings.{bits_cmp, begins}
use Rattle.trie_core.specs.InnerPlaces.{child_of, child_list, IsUnset}
use Rattle.trie_core.specs.Nodes.{BitMap, BitSet, Seen}
use Rattle.trie_core.specs.InnerNodes.{node_map, IsNode, HasSlots, AreBelow}
use Rattle.trie_core.specs.InnerCount.{spare_count, marked, spare_set}
use Rattle.trie_core.specs.Inside.{outside}
use Rattle.trie_core.specs.Ways.{IsIdle, LeadsOff, IsLeft, IsCut}
use Rattle.trie_core.proofs.Strings.{bits_total, bits_same, same, same-Decides, same-refl, front}
use Rattle.ipnet_blocks.proofs.BitStrings.{begins_on, begins_take}
use Rattle.trie_core.proofs.Maps.{ListChanges, child_get, child_changes, each_string, under_long, found_changed, get-below}
use Rattle.trie_core.proofs.Marks.{marked_get, marked-other, marked-root, root_if, set-short, set-long, set-changed, set-below}
use Rattle.trie_core.proofs.Named.{is_node, child_put_in, child_taken_out, child_found, turned}
use Rattle.trie_core.proofs.Taken.{IsTaken, missing, taken_out}
use Rattle.trie_core.proofs.Seen.{IsSeen, map_of}
use Rattle.trie_core.proofs.Changes.{was_found, set_removed, childless}
use Rattle.trie_core.proofs.Inside.{begins_elsewhere, first_five, get-outside, outside_absent, off_way_there, begins_under_first}
use Rattle.trie_core.proofs.Ways.{no_choice}

-- nothing is found in a set without strings
pub none_found : {o : Option (Unit {0})} → o ≡ None → is_some o ≡ true → ⊥
none_found e h = cc

not_other : (o : Option (Unit {0})) (b : Bool) → is_some (cond b None o) ≡ true → (b ≡ false) × (is_some o ≡ true)
not_other o b h = grind arith

-- the first string of a set
first_of : (b : BitSet) → (len b ≡ 0 → ⊥) → (t : List Bool) × (is_some (get b t) ≡ true)
first_of b h = by (entries b) refl
  where
    by : (es : List (List Bool × Unit {0})) → entries b ≡ es → (t : List Bool) × (is_some (get b t) ≡ true)
    by [] e = absurd (h (len-entries b ∙ ap length e))
    by (x ∷ es) e = (x.0, ap is_some (get-entries b x.0 ∙ ap (find bits_cmp x.0) e ∙ ap (λ s. cond s (Some x.1) (find bits_cmp x.0 es)) (same-refl x.0)))

module _ {X : Type 0} where
  pub none_changes : (cs : List (List Bool × Seen X)) (q : List Bool) → find bits_cmp (take 5 q) cs ≡ None → ListChanges cs (take 5 q) None cs
  none_changes cs q e x = by (same x (take 5 q)) refl
    where
      by : (b : Bool) → same x (take 5 q) ≡ b → find bits_cmp x cs ≡ cond b None (find bits_cmp x cs)
      by true f = ap (λ w. find bits_cmp w cs) ((same-Decides x (take 5 q)).0 f) ∙ e
      by false f = refl

  pub no_keys : (m : BitMap X) → ((k : List Bool) → get m k ≡ None) → len m ≡ 0
  no_keys m f = ap len (same_map bits_total bits_same m empty (λ x. f x ∙ sym (get-empty bits_cmp x))) ∙ len-empty bits_cmp X

  pub root_none : (n : ℕ) (m : BitMap X) → len m ≡ n → is_some (root_if n) ≡ true → (k : List Bool) → get m k ≡ None
  root_none zero m e h k = ap (λ m. get m k) (empty_of_len m e) ∙ get-empty bits_cmp k
  root_none (suc n) m e h k = cc

  -- without spare nodes there is no string off the way to p
  no_spare_string : (d : Seen X) (x p : List Bool) → spare_count d ≡ 0 → begins x p ≡ false → get d.spares x ≡ None
  no_spare_string d [] p z h = cc
  no_spare_string d (y ∷ ys) p z h = sym (get-remove bits_total d.spares [] (y ∷ ys)) ∙ ap (λ b. get b (y ∷ ys)) (empty_of_len (remove d.spares []) z) ∙ get-empty bits_cmp (y ∷ ys)

  -- off the way to p a child has no mark of its own
  marked_off : (e : Seen X) (p x : List Bool) → begins x p ≡ false → get (marked e) x ≡ get e.spares x
  marked_off e p [] h = cc
  marked_off e p (y ∷ ys) h = marked-other e y ys

module _ {X : Type 0} (lost : List Bool → Bool) where
  -- below five bits f: a node at r is on the way to p, has no key in the child, and leads to a spare node off the way that is not lost
  pub record IsStuck (f p : List Bool) (old new : Option (Seen X)) (r : List Bool) : Type 0 where
    pub fives : length r % 5 ≡ 0
    pub none : (k : List Bool) → child_get new (r ++ k) ≡ None
    pub leads : (k : List Bool) × (is_some (marked_get old (r ++ k)) ≡ true) × (begins (r ++ k) p ≡ false) × (lost (f ++ (r ++ k)) ≡ false)

  -- the child below f that may have been there became the new one
  pub record IsLeftBelow (f p : List Bool) (old new : Option (Seen X)) : Type 0 where
    pub off : (r : List Bool) → begins r p ≡ false → marked_get new r ≡ cond (lost (f ++ r)) None (marked_get old r)
    pub shows : (r : List Bool) → begins r p ≡ true → is_some (marked_get new r) ≡ true → IsStuck f p old new r
    pub holds : (r : List Bool) → begins r p ≡ true → IsStuck f p old new r → is_some (marked_get new r) ≡ true

  -- there was none
  pub left_absent : (f p : List Bool) → IsLeftBelow f p None None
  left_absent f p = record {
    off = λ r h. sym (no_choice (lost (f ++ r)));
    shows = λ r h s. absurd (none_found refl s);
    holds = λ r h s. absurd (none_found refl s.leads.1);
  }

  module _ (lower : List Bool → Bool) (f p : List Bool) (e d : Seen X) (alike : (r : List Bool) → lost (f ++ r) ≡ lower r) (left : IsLeft lower p e.spares d.entries d.spares) where
    -- a spare node off the way, by its string
    off_leads : (r k : List Bool) → is_some (get e.spares (r ++ k)) ≡ true → begins (r ++ k) p ≡ false → lower (r ++ k) ≡ false → (k : List Bool) × (is_some (get (marked e) (r ++ k)) ≡ true) × (begins (r ++ k) p ≡ false) × (lost (f ++ (r ++ k)) ≡ false)
    off_leads r k s h l = (k, ap is_some (marked_off e p (r ++ k) h) ∙ s, h, alike (r ++ k) ∙ l)

    -- from the child itself to a spare node below it
    root_leads_by : (t : List Bool) → is_some (get d.spares t) ≡ true → (b : Bool) → begins t p ≡ b → (k : List Bool) × (is_some (get (marked e) k) ≡ true) × (begins k p ≡ false) × (lost (f ++ k) ≡ false)
    root_leads_by t s true h = let l = ((left.on t h).0 s).1 in off_leads [] (t ++ l.0) l.1 l.2 l.3
    root_leads_by t s false h = let l = not_other (get e.spares t) (lower t) (ap is_some (sym (left.off t h)) ∙ s) in off_leads [] t l.1 h l.0

    left_off : (r : List Bool) → begins r p ≡ false → get (marked d) r ≡ cond (lost (f ++ r)) None (get (marked e) r)
    left_off r h = marked_off d p r h ∙ left.off r h ∙ (λ i. cond (sym (alike r) i) None (sym (marked_off e p r h) i))

    -- it stays, with a key or a spare node
    pub left_stays : (spare_count d ≡ 0 → len d.entries ≡ 0 → ⊥) → IsLeftBelow f p (Some e) (Some d)
    left_stays full = record { off = left_off; shows = shows; holds = holds }
      where
        shows : (r : List Bool) → begins r p ≡ true → is_some (get (marked d) r) ≡ true → IsStuck f p (Some e) (Some d) r
        shows [] h s =
            let k = root_none (len d.entries) d.entries refl (sym (ap is_some (marked-root d)) ∙ s) in
            let t = first_of (remove d.spares []) (λ z. full z (no_keys d.entries k)) in
            record { fives = refl; none = k; leads = root_leads_by t.0 (not_other (get d.spares t.0) _ (sym (ap is_some (get-remove bits_total d.spares [] t.0)) ∙ t.1)).1 (begins t.0 p) refl }
        shows (y ∷ ys) h s =
            let a = (left.on (y ∷ ys) h).0 (sym (ap is_some (marked-other d y ys)) ∙ s) in
            record { fives = a.0.fives; none = a.0.none; leads = off_leads (y ∷ ys) a.1.0 a.1.1 a.1.2 a.1.3 }

        holds : (r : List Bool) → begins r p ≡ true → IsStuck f p (Some e) (Some d) r → is_some (get (marked d) r) ≡ true
        holds [] h s = ap is_some (marked-root d) ∙ ap (λ n. is_some (root_if n)) (no_keys d.entries s.none)
        holds (y ∷ ys) h s =
            let l = s.leads in
            ap is_some (marked-other d y ys)
            ∙ (left.on (y ∷ ys) h).1 (
              record { below = omega (arith, s.fives); fives = s.fives; none = s.none },
              (l.0, sym (ap is_some (marked_off e p ((y ∷ ys) ++ l.0) l.2)) ∙ l.1, l.2, sym (alike ((y ∷ ys) ++ l.0)) ∙ l.3),
            )

    -- it goes, without a key and without a spare node
    pub left_goes : ((t : List Bool) → begins t p ≡ false → get d.spares t ≡ None) → IsLeftBelow f p (Some e) None
    left_goes bare = record {
      off = λ r h. sym (bare r h) ∙ left.off r h ∙ (λ i. cond (sym (alike r) i) None (sym (marked_off e p r h) i));
      shows = λ r h s. absurd (none_found refl s);
      holds = λ r h s.
          let l = s.leads in
          let t = r ++ l.0 in
          absurd (none_found (bare t l.2) (ap is_some (left.off t l.2 ∙ ap (λ b. cond b None (get e.spares t)) (sym (alike t) ∙ l.3)) ∙ sym (ap is_some (marked_off e p t l.2)) ∙ l.1));
    }

  -- ---- from a child to its node

  module _ {vs us : List (List Bool × X)} {cs ds : List (List Bool × Seen X)} (q : List Bool) (o : Option (Seen X)) (n : IsNode vs cs) (k : IsNode us ds) (h : 5 ≤ length q) (c : ListChanges cs (take 5 q) o ds)
      (elsewhere : (s : List Bool) → 5 ≤ length s → same (take 5 s) (take 5 q) ≡ false → lost s ≡ false) (left : IsLeftBelow (take 5 q) (drop 5 q) (find bits_cmp (take 5 q) cs) o) where
    found : find bits_cmp (take 5 q) ds ≡ o
    found = found_changed cs ds q o c

    old_at : (r : List Bool) → get (spare_set cs) (take 5 q ++ r) ≡ marked_get (find bits_cmp (take 5 q) cs) r
    old_at r = set-below n (take 5 q) r (front q h).0

    new_at : (r : List Bool) → get (spare_set ds) (take 5 q ++ r) ≡ marked_get o r
    new_at r = set-below k (take 5 q) r (front q h).0 ∙ ap (λ w. marked_get w r) found

    map_at : (r : List Bool) → get (node_map us ds) (take 5 q ++ r) ≡ child_get o r
    map_at r = get-below k (take 5 q) r (front q h).0 ∙ ap (λ w. child_get w r) found

    in_off : (r : List Bool) → begins (take 5 q ++ r) q ≡ false → get (spare_set ds) (take 5 q ++ r) ≡ cond (lost (take 5 q ++ r)) None (get (spare_set cs) (take 5 q ++ r))
    in_off r b = new_at r ∙ left.off r (sym (begins_under_first q r h) ∙ b) ∙ ap (cond (lost (take 5 q ++ r)) None) (sym (old_at r))

    in_on : (r : List Bool) → begins (take 5 q ++ r) q ≡ true → (is_some (get (spare_set ds) (take 5 q ++ r)) ≡ true) ↔ (IsIdle (node_map us ds) (take 5 q ++ r) × LeadsOff lost (spare_set cs) q (take 5 q ++ r))
    in_on r b = (
      λ s.
          let t = left.shows r (sym (begins_under_first q r h) ∙ b) (sym (ap is_some (new_at r)) ∙ s) in
          let l = t.leads in (
            record { below = under_long q r h; fives = omega (arith, t.fives, length-append (take 5 q) r, (front q h).0); none = λ x. ap (get (node_map us ds)) (append_assoc (take 5 q) r x) ∙ map_at (r ++ x) ∙ t.none x },
            (l.0, ap (λ w. is_some (get (spare_set cs) w)) (append_assoc (take 5 q) r l.0) ∙ ap is_some (old_at (r ++ l.0)) ∙ l.1, ap (λ w. begins w q) (append_assoc (take 5 q) r l.0) ∙ begins_under_first q (r ++ l.0) h ∙ l.2, ap lost (append_assoc (take 5 q) r l.0) ∙ l.3),
          ),
      λ s.
          let l = s.1 in
          ap is_some (new_at r)
          ∙ left.holds r (sym (begins_under_first q r h) ∙ b) (record {
            fives = omega (arith, s.0.fives, length-append (take 5 q) r, (front q h).0);
            none = λ x. sym (ap (get (node_map us ds)) (append_assoc (take 5 q) r x) ∙ map_at (r ++ x)) ∙ s.0.none x;
            leads = (l.0, sym (ap (λ w. is_some (get (spare_set cs) w)) (append_assoc (take 5 q) r l.0) ∙ ap is_some (old_at (r ++ l.0))) ∙ l.1, sym (ap (λ w. begins w q) (append_assoc (take 5 q) r l.0) ∙ begins_under_first q (r ++ l.0) h) ∙ l.2, sym (ap lost (append_assoc (take 5 q) r l.0)) ∙ l.3);
          }),
    )

    off_elsewhere : (s : List Bool) → 5 ≤ length s → same (take 5 s) (take 5 q) ≡ false → get (spare_set ds) s ≡ cond (lost s) None (get (spare_set cs) s)
    off_elsewhere s l e =
        set-changed cs q o k c s l ∙ ap (λ t. marked_get (cond t o (find bits_cmp (take 5 s) cs)) (drop 5 s)) e
        ∙ sym (set-long n s l)
        ∙ sym (ap (λ t. cond t None (get (spare_set cs) s)) (elsewhere s l e))

    pub left_node : IsLeft lost q (spare_set cs) (node_map us ds) (spare_set ds)
    left_node = record {
      off = each_string (λ s. begins s q ≡ false → get (spare_set ds) s ≡ cond (lost s) None (get (spare_set cs) s)) q (λ s l b. set-short k s l ∙ sym (no_choice (lost s)) ∙ ap (cond (lost s) None) (sym (set-short n s l))) in_off (λ s l e b. off_elsewhere s l e);
      on = each_string (λ s. begins s q ≡ true → (is_some (get (spare_set ds) s) ≡ true) ↔ (IsIdle (node_map us ds) s × LeadsOff lost (spare_set cs) q s)) q (λ s l b. (λ t. absurd (none_found (set-short k s l) t), λ t. absurd (omega (arith, t.0.below, l)))) in_on (λ s l e b. absurd (both_ways _ (off_way_there q s l e) b));
    }

  -- ---- a node that was seen as m

  -- within the node no spare node is on the way
  pub left_short : {vb : ℕ} {vs : List X} {cb : ℕ} {cs : List (Seen X)} {m : Seen X} {n : BitMap X} (q : List Bool) → IsSeen vb vs cb cs m → length q < 5 → ((s : List Bool) → lost s ≡ false) → IsLeft lost q m.spares n m.spares
  left_short {m = m} {n = n} q s h f = record {
    off = λ x b. ap (λ t. cond t None (get m.spares x)) (sym (f x));
    on = λ x b. (λ t. absurd (none_found (none_within x b) t), λ t. absurd (omega (arith, t.0.below, (begins_take x q b).0, h)));
  }
    where
      none_within : (x : List Bool) → begins x q ≡ true → get m.spares x ≡ None
      none_within x b = ap (λ k. get k x) (sym s.spare) ∙ set-short s.node x (omega (arith, (begins_take x q b).0, h))

  module _ {vb : ℕ} {vs : List X} {cb : ℕ} {cs : List (Seen X)} {m : Seen X} (q : List Bool) (s : IsSeen vb vs cb cs m) (h : 5 ≤ length q) (elsewhere : (x : List Bool) → 5 ≤ length x → same (take 5 x) (take 5 q) ≡ false → lost x ≡ false) where
    -- no child on the way
    pub left_none : {n : ℕ} → n ≡ child_of q → IsUnset n cb → IsLeft lost q m.spares m.entries m.spares
    left_none {n} k u =
        let none : find bits_cmp (take 5 q) (child_list cb cs) ≡ None = child_found q cb cs h s.slots.children_below ∙ sym (missing (child_of q) cb cs (subst (λ i. IsUnset i cb) k u)) in
        subst (λ (w : BitMap X × BitSet). IsLeft lost q w.1 w.0 w.1) (λ i. (s.map i, s.spare i))
        (left_node q None s.node s.node h (none_changes (child_list cb cs) q none) elsewhere (subst (λ o. IsLeftBelow (take 5 q) (drop 5 q) o None) (sym none) (left_absent (take 5 q) (drop 5 q))))

    module _ {at : ℕ} (lower : List Bool → Bool) (e d : Seen X) (t : IsTaken (child_of q) at cb cs) (r : e ≡ get_or cs at e) (alike : (x : List Bool) → lost (take 5 q ++ x) ≡ lower x) (left : IsLeft lower (drop 5 q) e.spares d.entries d.spares) where
      -- the child on the way stays
      pub left_set : (spare_count d ≡ 0 → len d.entries ≡ 0 → ⊥) → IsLeft lost q m.spares (map_of vb vs cb (set cs at d)) (spare_set (child_list cb (set cs at d)))
      left_set full =
          subst (λ w. IsLeft lost q w (map_of vb vs cb (set cs at d)) (spare_set (child_list cb (set cs at d)))) s.spare
          (left_node q (Some d) s.node (is_node vb vs cb (set cs at d) s.slots.values_below s.slots.children_below) h (child_put_in q d cb cb cs (set cs at d) h s.slots.children_below (t.written d)) elsewhere
          (subst (λ o. IsLeftBelow (take 5 q) (drop 5 q) o (Some d)) (sym (was_found q e s h t r)) (left_stays lower (take 5 q) (drop 5 q) e d alike left full)))

      -- it goes
      pub left_removed : {b : ℕ} {ds : List (Seen X)} → spare_count d ≡ 0 → b ≡ 2 ^ child_of q → ds ≡ remove_at (set cs at d) at → IsLeft lost q m.spares (map_of vb vs (cb - b) ds) (spare_set (child_list (cb - b) ds))
      left_removed {b} {ds} z k l =
          let p = childless q e s h t r k (l ∙ set_removed cs at d) in
          subst (λ w. IsLeft lost q w (map_of vb vs (cb - b) ds) (spare_set (child_list (cb - b) ds))) s.spare
          (left_node q None s.node (is_node vb vs (cb - b) ds p.slots.values_below p.slots.children_below) h p.changes elsewhere
          (subst (λ o. IsLeftBelow (take 5 q) (drop 5 q) o None) (sym (was_found q e s h t r)) (left_goes lower (take 5 q) (drop 5 q) e d alike left (λ x. no_spare_string d x (drop 5 q) z))))

-- ---- all inside q went

-- the only string of five bits or more that begins five bits or fewer
cut_by : (s q : List Bool) → 5 ≤ length s → length q ≤ 5 → begins s q ≡ true → s ≡ q
cut_by s q l h b =
    let t = begins_take s q b in
    let e : length s ≡ length q = omega (arith, t.0, l, h) in
    sym t.1 ∙ ap (λ n. take n q) e ∙ take-length q

module _ {X : Type 0} where
  -- of at most five bits
  pub cut_short : (q : List Bool) (a : BitSet) (n : BitMap X) (c : BitSet) → length q ≤ 5 → c ≡ outside a q → AreBelow c → IsCut q a n c
  cut_short q a n c h e below = record {
    off = λ x b. at x;
    on = λ x b. (λ t. absurd (lost x b t), λ t. absurd (gone x b t));
  }
    where
      at : (x : List Bool) → get c x ≡ cond (begins q x) None (get a x)
      at x = ap (λ b. get b x) e ∙ get-outside a q x ∙ turned (begins q x) (get a x) None

      lost : (x : List Bool) → begins x q ≡ true → is_some (get c x) ≡ true → ⊥
      lost x b t =
          let f = not_other (get a x) (begins q x) (sym (ap is_some (at x)) ∙ t) in
          both_ways _ f.0 (ap (begins q) (cut_by x q (below x t) h b ∙ sym (append-nil q)) ∙ begins_on q [])

      gone : (x : List Bool) → begins x q ≡ true → IsIdle n x × LeadsOff (begins q) a q x → ⊥
      gone x b t =
          let p = cut_by x q t.0.below h b in
          both_ways _ t.1.3 (ap (λ w. begins q (w ++ t.1.0)) p ∙ begins_on q t.1.0)

  -- the strings of a node, and of what it became
  pub set_below : {vb : ℕ} {vs : List X} {cb : ℕ} {cs : List (Seen X)} → HasSlots vb vs cb cs → AreBelow (spare_set (child_list cb cs))
  set_below {vb} {vs} {cb} {cs} s x t = elim (cases_lt (length x) 5) [
    | inl l ↦ absurd (none_found (set-short (is_node vb vs cb cs s.values_below s.children_below) x l) t)
    | inr l ↦ l
  ]

  -- no child at the first five bits of q
  pub out_none : {vb n : ℕ} {vs : List X} {cb : ℕ} {cs : List (Seen X)} {m : Seen X} (q : List Bool) → IsSeen vb vs cb cs m → 5 ≤ length q → n ≡ child_of q → IsUnset n cb → m.spares ≡ outside m.spares q
  out_none {cb = cb} {cs = cs} {m = m} q s h k u =
      let none : find bits_cmp (take 5 q) (child_list cb cs) ≡ None = child_found q cb cs h s.slots.children_below ∙ sym (missing (child_of q) cb cs (subst (λ i. IsUnset i cb) k u)) in
      outside_absent m.spares q (λ x e.
      let l : 5 ≤ length x = omega (arith, (begins_take q x e).0, h) in
      ap (λ b. get b x) (sym s.spare) ∙ set-long s.node x l ∙ (λ i. marked_get (find bits_cmp (first_five q x h e i) (child_list cb cs)) (drop 5 x)) ∙ ap (λ o. marked_get o (drop 5 x)) none)

  -- the child at five bits goes
  out_at : {vs us : List (List Bool × X)} {cs ds : List (List Bool × Seen X)} (q : List Bool) → IsNode vs cs → IsNode us ds → length q ≡ 5 → ListChanges cs (take 5 q) None ds → spare_set ds ≡ outside (spare_set cs) q
  out_at {cs = cs} {ds = ds} q n k h c =
      let five : 5 ≤ length q = omega (arith, h) in
      let first : take 5 q ≡ q = ap (λ i. take i q) (sym h) ∙ take-length q in
      same_map bits_total bits_same _ _ (λ x. child_changes marked_get (λ x p. cond (not (begins q x)) p None) cs ds q None (get (spare_set cs)) (get (spare_set ds)) (set-long n) (set-long k) five c
      (λ x l. set-short k x l ∙ sym (no_choice (not (begins q x))) ∙ ap (λ o. cond (not (begins q x)) o None) (sym (set-short n x l)))
      (λ r. ap (λ b. cond (not b) (marked_get (find bits_cmp (take 5 q) cs) r) None) (sym (ap (λ w. begins q (w ++ r)) first ∙ begins_on q r)))
      (λ x p l e. ap (λ b. cond (not b) p None) (begins_elsewhere q x five e)) x
      ∙ sym (get-outside (spare_set cs) q x))

  pub out_child : {vb at b : ℕ} {vs : List X} {cb : ℕ} {cs ds : List (Seen X)} {m : Seen X} (q : List Bool) → IsSeen vb vs cb cs m → length q ≡ 5 → IsTaken (child_of q) at cb cs → b ≡ 2 ^ child_of q → ds ≡ remove_at cs at → spare_set (child_list (cb - b) ds) ≡ outside m.spares q
  out_child {vb} {at} {b} {vs} {cb} {cs} {ds} q s h t k l =
      let o = taken_out (child_of q) at cb b cs ds t k l in
      out_at q s.node (is_node vb vs (cb - b) ds s.slots.values_below (omega (arith, s.slots.children_below))) h (child_taken_out q cb (cb - b) cs ds (omega (arith, h)) s.slots.children_below o.0) ∙ ap (λ x. outside x q) s.spare
