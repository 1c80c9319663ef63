-- What a removal makes of a node with skipped levels.
use Rattle.std.proofs.Common.{◌≡◌, ℕ, zero, suc, ◌+◌, ◌-◌, ◌*◌, ◌^◌, ◌<◌, ◌≤◌, Bool, true, false, cond, not, List, [], ◌∷◌, ◌++◌, length, take, drop, get_or, set, refl, sym, ap, subst, ◌∙◌, inl, inr, Option, None, remove, take-take, take-append-drop, length-drop, arith}
use Rattle.std.specs.FinMap.{empty, entries, from_entries, empty_of_len, len-empty, len, get, get-empty, same_map}
use Rattle.std.proofs.lemmas.Bool.{both_ways, cases_lt, cases_order, false_from_ne_true}
use Rattle.std.proofs.Math.Seq.{take-length}
use Rattle.shape.specs.declared.shape.Shape.{Shape}
use Rattle.shape.specs.Shapes.{shape_values, shape_children}
use Rattle.shape.specs.Lends.{with_child}
use Rattle.shape.proofs.With.{children_with, values_with_child}
use Rattle.ipnet_blocks.specs.BitStrings.{bits_cmp, begins}
use Rattle.ipnet_blocks.proofs.BitStrings.{begins_take, take_begins}
use Rattle.ipnet_blocks.proofs.Strings.{length-digits}
use Rattle.trie_core.specs.InnerCount.{spare_of, spare_count, all_nodes, marked}
use Rattle.trie_core.specs.InnerPlaces.{value_list, child_list, child_string, named, child_of}
use Rattle.trie_core.specs.InnerNodes.{node_map, under}
use Rattle.trie_core.specs.InnerRemovedBelow.{IsFull, IsBare}
use Rattle.trie_core.specs.Nodes.{BitMap, BitSet, Seen}
use Rattle.trie_core.specs.InnerChains.{over, chain, skipped, chain_levels, Starts}
use Rattle.trie_core.specs.InnerRemovals.{IsRemoved}
use Rattle.trie_core.specs.Ways.{IsCut, IsKept}
use Rattle.trie_core.specs.Inside.{outside}
use Rattle.trie_core.proofs.Marks.{no_spares, marked-other, marked_get, set-short}
use Rattle.trie_core.proofs.Seen.{none_spare, entries_of, viewed, spare_at, IsSeen}
use Rattle.trie_core.proofs.Chains.{over_slots, over_places, over_seen, over_taken, over_other, over_free, chain_none, chain_along, chain_step}
use Rattle.trie_core.proofs.Tidying.{IsTidyBelow}
use Rattle.trie_core.proofs.Numbers.{number_bound, child_string-child_of}
use Rattle.trie_core.proofs.Levels.{chain_nodes}
use Rattle.trie_core.proofs.Strings.{bits_total, bits_same, front}
use Rattle.trie_core.proofs.Changes.{new_nodes, spare_kept, was, was_lower, set_taken, set_count, set_height}
use Rattle.trie_core.proofs.RemovedBelow.{over_full, chain_full}
use Rattle.trie_core.proofs.Inside.{get-outside, outside_absent, begins_longer, begins_elsewhere, begins_below}
use Rattle.trie_core.proofs.Left.{left_none, left_set, left_removed, cut_short, set_below, none_found}
use Rattle.trie_core.proofs.Removals.{removed_below, removed_child}
use Rattle.trie_core.proofs.Maps.{remove_absent}
use Rattle.trie_core.proofs.Staying.{kept_absent, kept_set}
use Rattle.trie_core.proofs.Taken.{IsTaken}
use Rattle.std.specs.FinMap as map

-- ---- which string begins which

pub begins_of_take : (q s : List Bool) → take (length q) s ≡ q → begins q s ≡ true
begins_of_take q s e = ap (λ p. begins p s) (sym e) ∙ take_begins (length q) s

-- of two beginnings of a string the shorter begins the longer
shorter : (q s x : List Bool) → length q ≤ length s → begins q x ≡ true → begins s x ≡ true → begins q s ≡ true
shorter q s x l a b = begins_of_take q s
    (ap (take (length q)) (sym (begins_take s x b).1) ∙ take-take (length q) (length s) x l ∙ (begins_take q x a).1)

alike : (q s x : List Bool) → begins q s ≡ false → begins s q ≡ false → begins q x ≡ true → begins s x ≡ true → ⊥
alike q s x f g a b = elim (cases_lt (length q) (length s)) [
  | inl l ↦ both_ways _ f (shorter q s x (omega (arith, l)) a b)
  | inr l ↦ both_ways _ g (shorter s q x l b a)
]

through : (q s x : List Bool) → begins q s ≡ true → begins s x ≡ true → begins q x ≡ true
through q s x a b =
    begins_of_take q x (sym (take-take (length q) (length s) x (begins_take q s a).0) ∙ ap (take (length q)) (begins_take s x b).1
    ∙ (begins_take q s a).1)

-- a string that is no longer than s, and does not begin it
not_longer : (q s : List Bool) → length q ≤ length s → begins q s ≡ false → begins s q ≡ false
not_longer q s l f = false_from_ne_true _ (λ e. both_ways _ f (shorter q s q l (begins_of_take q q (take-length q)) e))

first_bits : (q s : List Bool) → 5 ≤ length q → 5 ≤ length s → child_of s ≡ child_of q → take 5 q ≡ take 5 s
first_bits q s h l e = sym (child_string-child_of q h) ∙ ap child_string (sym e) ∙ child_string-child_of s l

begins_past : (q s : List Bool) → 5 ≤ length q → 5 ≤ length s → child_of s ≡ child_of q → begins (drop 5 q) (drop 5 s) ≡ begins q s
begins_past q s h l e = sym (begins_below q (drop 5 s) h)
    ∙ ap (begins q) (ap (λ p. p ++ drop 5 s) (first_bits q s h l e) ∙ take-append-drop 5 s)

-- where one begins with the skipped levels and the other not
not_started : (k : ℕ) (q s : List Bool) → length s ≡ 5 * k → ((5 * k ≤ length q) × (take (5 * k) q ≡ s) → ⊥) → begins s q ≡ false
not_started k q s l f = false_from_ne_true _
    (λ e. let t = begins_take s q e in f (omega (arith, t.0, l), ap (λ n. take n q) (sym l) ∙ t.1))

started : (k : ℕ) (q s : List Bool) → length s ≡ 5 * k → (5 * k ≤ length q) × (take (5 * k) q ≡ s) → begins s q ≡ true
started k q s l t = begins_of_take s q (ap (λ n. take n q) l ∙ t.1)

module _ {X : Type 0} where
  -- ---- how many entries, nodes and levels it has

  chain_entries : (k : ℕ) (s : List Bool) (d : Seen X) → len (chain k s d).entries ≡ len d.entries
  chain_entries zero s d = omega arith
  chain_entries (suc k) s d =
      omega (arith, entries_of (over_seen (child_of s) (chain k (drop 5 s) d) (number_bound 5 s)), chain_entries k (drop 5 s) d)

  -- w has as many entries as the branch d, and k nodes and levels more
  pub record HasSkipped (k : ℕ) (d w : Seen X) : Type 0 where
    pub entries : len w.entries ≡ len d.entries
    pub nodes : all_nodes w ≡ all_nodes d + k
    pub levels : w.levels ≡ d.levels + k

  pub skipped_counts : {w : Seen X} (k skip : ℕ) (d : Seen X) → chain k (skipped k skip) d ≡ w → HasSkipped k d w
  skipped_counts k skip d v = record {
    entries = ap (λ w. len w.entries) (sym v) ∙ chain_entries k (skipped k skip) d;
    nodes = ap (λ w. all_nodes w) (sym v) ∙ chain_nodes k (skipped k skip) d;
    levels = ap (λ w. w.levels) (sym v) ∙ chain_levels k (skipped k skip) d;
  }

  -- ---- spare nodes go

  -- a node that stays has no spare node left, so it has an entry
  pub spare_none : (d : Seen X) → d.spares ≡ empty → IsFull d → spare_of d ≡ 0
  spare_none d e f = let z = no_spares d e in spare_kept d false z (λ p. absurd (f z (ap len p.0 ∙ len-empty bits_cmp X))) refl

  pub tidy_kept : {m : Seen X} {k gone vb cb : ℕ} {vs ws : List X} {cs : List (Seen X)} → ws ≡ vs → IsTidyBelow m k gone vb vs cb cs
      → IsTidyBelow m k gone vb ws cb cs
  tidy_kept {m} {k} {gone} {vb} {cb} {cs = cs} e t = subst (λ l. IsTidyBelow m k gone vb l cb cs) (sym e) t

  pub tidy_written : {m : Seen X} {k gone vb cb : ℕ} (at : ℕ) (d : Seen X) (b : Shape (Seen X) X)
      → IsTidyBelow m k gone vb (shape_values b) cb (set (shape_children b) at d)
      → IsTidyBelow m k gone vb (shape_values (with_child b at d)) cb (shape_children (with_child b at d))
  tidy_written {m} {k} {gone} {vb} {cb} at d b t =
      subst (λ l. IsTidyBelow m k gone vb (shape_values (with_child b at d)) cb l) (sym (children_with b at d))
      (tidy_kept (values_with_child b at d) t)

  -- one level
  over_same : (n : ℕ) (c d : Seen X) → n < 32 → c.entries ≡ d.entries → (over n c).entries ≡ (over n d).entries
  unfolding node_map child_list
  over_same n c d l e =
      ap (λ es. node_map (value_list 0 []) (named child_string es)) (over_places n c l)
      ∙ ap (λ m. from_entries {R = bits_cmp} (value_list 0 [] ++ (under (child_string n) (entries m) ++ []))) e
      ∙ sym (ap (λ es. node_map (value_list 0 []) (named child_string es)) (over_places n d l))

  chain_same : (k : ℕ) (s : List Bool) (c d : Seen X) → c.entries ≡ d.entries → (chain k s c).entries ≡ (chain k s d).entries
  chain_same zero s c d e = e
  chain_same (suc k) s c d e =
      over_same (child_of s) (chain k (drop 5 s) c) (chain k (drop 5 s) d) (number_bound 5 s) (chain_same k (drop 5 s) c d e)

  over_none : (n : ℕ) (c : Seen X) → n < 32 → spare_of c ≡ 0 → (over n c).spares ≡ empty
  over_none n c l z = none_spare 0 [] (2 ^ n) (c ∷ []) (over_slots n c l) (omega (arith, z))

  chain_none_spare : (k : ℕ) (s : List Bool) (d : Seen X) → d.spares ≡ empty → (len d.entries ≡ 0 → ⊥)
      → (chain k s d).spares ≡ empty
  chain_none_spare zero s d e f = e
  chain_none_spare (suc k) s d e f =
      let c = chain k (drop 5 s) d in
      over_none (child_of s) c (number_bound 5 s)
      (spare_none c (chain_none_spare k (drop 5 s) d e f) (λ y z. f (sym (chain_entries k (drop 5 s) d) ∙ z)))

  -- m without its spare nodes, of which so many went
  pub record IsWithoutSpares (m : Seen X) (gone : ℕ) (n : Seen X) : Type 0 where
    pub map : n.entries ≡ m.entries
    pub spares : n.spares ≡ empty
    pub count : all_nodes n + gone ≡ all_nodes m
    pub levels : n.levels ≤ m.levels

  -- the branch has an entry
  pub skipped_tidied : {gone : ℕ} {w n : Seen X} (k skip : ℕ) (e d : Seen X) → chain k (skipped k skip) e ≡ w
      → n ≡ chain k (skipped k skip) d → IsFull d → IsWithoutSpares e gone d → IsWithoutSpares w gone n
  skipped_tidied {gone} {w} {n} k skip e d v j f x =
      let s = skipped k skip in
      subst (IsWithoutSpares w gone) (sym j)
      (subst (λ m. IsWithoutSpares m gone (chain k s d)) v (record {
        map = chain_same k s d e x.map;
        spares = chain_none_spare k s d x.spares (f (no_spares d x.spares));
        count = omega (arith, chain_nodes k s d, chain_nodes k s e, x.count);
        levels = omega (arith, chain_levels k s d, chain_levels k s e, x.levels);
      }))

  -- the branch is bare, and its skipped levels go with the spare nodes
  pub skipped_bared : {w : Seen X} (k skip : ℕ) (e d : Seen X) → chain k (skipped k skip) e ≡ w → d.entries ≡ empty
      → d.entries ≡ e.entries → d.entries ≡ w.entries
  skipped_bared {w} k skip e d v z f = z
      ∙ sym (empty_of_len w.entries ((skipped_counts k skip e v).entries ∙ ap len (sym f ∙ z) ∙ len-empty bits_cmp X))

  -- ---- all inside a string goes

  -- m without the entries inside q, and without the nodes that lead to nothing then
  pub record IsCutOut (q : List Bool) (m : Seen X) (went : ℕ × ℕ) (n : Seen X) : Type 0 where
    pub removed : IsRemoved q m went n
    pub spares : IsCut q m.spares n.entries n.spares

  -- the child on the way stays
  pub cut_stays : {vb at : ℕ} {vs : List X} {cb : ℕ} {cs : List (Seen X)} {m : Seen X} {r : List Bool} {went : ℕ × ℕ}
      (q : List Bool) (e d : Seen X) → IsSeen vb vs cb cs m → 5 ≤ length q → IsTaken (child_of q) at cb cs → e ≡ get_or cs at e
      → r ≡ drop 5 q → IsFull d → IsCutOut r e went d → IsCutOut q m went (viewed vb vs cb (set cs at d))
  cut_stays q e d s h t k f a x = record {
    removed = removed_below q e d s h t k f x.removed;
    spares = left_set (begins q) q s h (λ y l z. begins_elsewhere q y h z) (begins (drop 5 q)) e d t k (λ y. begins_below q y h)
        (subst (λ p. IsCut p e.spares d.entries d.spares) f x.spares) a;
  }

  -- it goes, once nothing is left in it
  pub cut_goes : {vb at b : ℕ} {vs : List X} {cb : ℕ} {cs ds : List (Seen X)} {m : Seen X} {r : List Bool} {went : ℕ × ℕ}
      (q : List Bool) (e d : Seen X) → IsSeen vb vs cb cs m → 5 ≤ length q → IsTaken (child_of q) at cb cs → e ≡ get_or cs at e
      → r ≡ drop 5 q → (d.entries ≡ empty) × (spare_count d ≡ 0) → all_nodes d ≡ 1 → b ≡ 2 ^ child_of q → ds ≡ remove (set cs at d) at
      → IsCutOut r e went d → IsCutOut q m (went.0, went.1 + 1) (viewed vb vs (cb - b) ds)
  cut_goes q e d s h t k f a n j l x = record {
    removed = (removed_child q e d s h t k f x.removed a.0 n j l).1;
    spares = left_removed (begins q) q s h (λ y l z. begins_elsewhere q y h z) (begins (drop 5 q)) e d t k (λ y. begins_below q y h)
        (subst (λ p. IsCut p e.spares d.entries d.spares) f x.spares) a.1 j l;
  }

  -- one level
  over_cut : {went : ℕ × ℕ} (q : List Bool) (e d : Seen X) → 5 ≤ length q → IsFull d → IsCutOut (drop 5 q) e went d
      → IsCutOut q (over (child_of q) e) went (over (child_of q) d)
  over_cut q e d h f x = cut_stays q e d (over_seen (child_of q) e (number_bound 5 q)) h
      (over_taken (child_of q) e (number_bound 5 q)) refl refl f x

  over_cut_bare : {went : ℕ × ℕ} (q : List Bool) (e d : Seen X) → 5 ≤ length q → IsBare d → IsCutOut (drop 5 q) e went d
      → IsCutOut q (over (child_of q) e) (went.0, went.1 + 1) d
  over_cut_bare {went} q e d h b x =
      let n = child_of q in
      let u : 2 ^ n - 2 ^ n ≡ 0 = omega arith in
      subst (IsCutOut q (over n e) (went.0, went.1 + 1)) ((λ i. viewed 0 [] (u i) []) ∙ sym b.same)
      (cut_goes q e d (over_seen n e (number_bound 5 q)) h (over_taken n e (number_bound 5 q)) refl refl (b.entries, b.spares) b.count refl refl x)

  -- more levels
  chain_cut : {went : ℕ × ℕ} (k : ℕ) (q r : List Bool) (e d : Seen X) → 5 * k ≤ length q → r ≡ drop (5 * k) q → IsFull d
      → IsCutOut r e went d → IsCutOut q (chain k q e) went (chain k q d)
  chain_cut {went} zero q r e d l f h x = subst (λ p. IsCutOut p e went d) f x
  chain_cut (suc k) q r e d l f h x =
      let t = chain_step k q r l f in
      over_cut q (chain k (drop 5 q) e) (chain k (drop 5 q) d) (omega (arith, l)) (chain_full k (drop 5 q) d h)
      (chain_cut k (drop 5 q) r e d t.0 t.1 h x)

  chain_cut_bare : {went : ℕ × ℕ} (k : ℕ) (q r : List Bool) (e d : Seen X) → 5 * k ≤ length q → r ≡ drop (5 * k) q → IsBare d
      → IsCutOut r e went d → IsCutOut q (chain k q e) (went.0, went.1 + k) d
  chain_cut_bare {went} zero q r e d l f b x =
      let u : went.1 ≡ went.1 + 0 = omega arith in
      subst (λ i. IsCutOut q e (went.0, i) d) u (subst (λ p. IsCutOut p e went d) f x)
  chain_cut_bare {went} (suc k) q r e d l f b x =
      let t = chain_step k q r l f in
      let u : went.1 + k + 1 ≡ went.1 + suc k = omega arith in
      subst (λ i. IsCutOut q (over (child_of q) (chain k (drop 5 q) e)) (went.0, i) d) u
      (over_cut_bare q (chain k (drop 5 q) e) d (omega (arith, l)) b (chain_cut_bare k (drop 5 q) r e d t.0 t.1 b x))

  -- ---- a string that the skipped levels do not lead to

  marked_none : (c : Seen X) (r p : List Bool) → begins r p ≡ false → get c.spares r ≡ None → get (marked c) r ≡ None
  marked_none c [] p f e = absurd (both_ways _ f refl)
  marked_none c (y ∷ ys) p f e = marked-other c y ys ∙ e

  -- there is no spare node
  no_spare : (k : ℕ) (s x : List Bool) (m : Seen X) → length s ≡ 5 * k → begins x s ≡ false → begins s x ≡ false
      → get (chain k s m).spares x ≡ None
  no_spare zero [] x m l f g = absurd (both_ways _ g refl)
  no_spare zero (y ∷ s) x m l f g = absurd (omega (arith, l))
  no_spare (suc k) s x m l f g =
      let c = chain k (drop 5 s) m in
      let n = child_of s in
      let h : 5 ≤ length s = omega (arith, l) in
      let off : (n ≡ child_of x → ⊥) → 5 ≤ length x → get (over n c).spares x ≡ None =
      λ e j. ap (get (over n c).spares) (sym (front x j).1) ∙ (over_other x n c (number_bound 5 s) j e).spares (drop 5 x)
      in
      elim (cases_lt (length x) 5) [
        | inl j ↦ set-short (over_seen n c (number_bound 5 s)).node x j
        | inr j ↦ elim (cases_order n (child_of x)) [
          | inl e ↦
              let p : begins (drop 5 x) (drop 5 s) ≡ false = begins_past x s j h e ∙ f in
              let o = over_seen (child_of x) c (number_bound 5 x) in
              (λ i. get (over (e i) c).spares x) ∙ sym (spare_at x o j)
              ∙ ap (λ t. marked_get t (drop 5 x)) ((over_taken (child_of x) c (number_bound 5 x)).read c)
              ∙ marked_none c (drop 5 x) (drop 5 s) p
              (no_spare k (drop 5 s) (drop 5 x) m (omega (arith, l, length-drop 5 s)) p (begins_past s x h j (sym e) ∙ g))
          | inr (inl p) ↦ off (λ e. omega (arith, e, p)) j
          | inr (inr p) ↦ off (λ e. omega (arith, e, p)) j
        ]
      ]

  full_off : (k : ℕ) (q s : List Bool) (m : Seen X) → length s ≡ 5 * k → begins s q ≡ false → IsFull (chain k s m)
  full_off zero q [] m l g = absurd (both_ways _ g refl)
  full_off zero q (b ∷ s) m l g = absurd (omega (arith, l))
  full_off (suc k) q s m l g = over_full (child_of s) (chain k (drop 5 s) m) (number_bound 5 s)

  -- so nothing goes
  cut_off : (k : ℕ) (q s : List Bool) (m : Seen X) → length s ≡ 5 * k → begins q s ≡ false → begins s q ≡ false
      → IsCut q (chain k s m).spares (chain k s m).entries (chain k s m).spares
  cut_off zero q [] m l f g = absurd (both_ways _ g refl)
  cut_off zero q (b ∷ s) m l f g = absurd (omega (arith, l))
  cut_off (suc k) q s m l f g =
      let c = chain k (drop 5 s) m in
      let n = child_of s in
      let o = over_seen n c (number_bound 5 s) in
      let j : 5 ≤ length s = omega (arith, l) in
      elim (cases_lt (length q) 5) [
        | inl h ↦
            cut_short q (over n c).spares (over n c).entries (over n c).spares (omega (arith, h))
            (outside_absent (over n c).spares q
            (λ x e. no_spare (suc k) s x m l (false_from_ne_true _ (λ b. both_ways _ f (through q x s e b)))
            (false_from_ne_true _ (λ b. alike q s x f g e b))))
            (set_below (over_slots n c (number_bound 5 s)))
        | inr h ↦ elim (cases_order n (child_of q)) [
          | inl e ↦
              let a : length (drop 5 s) ≡ 5 * k = omega (arith, l, length-drop 5 s) in
              let b : begins (drop 5 q) (drop 5 s) ≡ false = begins_past q s h j e ∙ f in
              let d : begins (drop 5 s) (drop 5 q) ≡ false = begins_past s q j h (sym e) ∙ g in
              subst (λ i. IsCut q (over i c).spares (over i c).entries (over i c).spares) (sym e)
              (left_set (begins q) q (over_seen (child_of q) c (number_bound 5 q)) h (λ y t z. begins_elsewhere q y h z)
              (begins (drop 5 q)) c c (over_taken (child_of q) c (number_bound 5 q)) refl (λ y. begins_below q y h)
              (cut_off k (drop 5 q) (drop 5 s) m a b d) (full_off k (drop 5 q) (drop 5 s) m a d))
          | inr (inl p) ↦ left_none (begins q) q o h (λ y t z. begins_elsewhere q y h z) refl
              (over_free (child_of q) n (λ e. omega (arith, e, p)))
          | inr (inr p) ↦ left_none (begins q) q o h (λ y t z. begins_elsewhere q y h z) refl
              (over_free (child_of q) n (λ e. omega (arith, e, p)))
        ]
      ]

  chain_cut_off : (k : ℕ) (q s : List Bool) (m : Seen X) → length s ≡ 5 * k → begins q s ≡ false → begins s q ≡ false
      → IsCutOut q (chain k s m) (0, 0) (chain k s m)
  chain_cut_off k q s m l f g = record {
    removed = record {
      map = outside_absent (chain k s m).entries q (λ x e. chain_none k x s m l (λ t. alike q s x f g e (started k x s l t)));
      entries = omega arith;
      count = omega arith;
      levels = omega arith;
    };
    spares = cut_off k q s m l f g;
  }

  -- ---- a string that ends on the skipped levels: all goes

  outside_none : (m : BitMap X) (q : List Bool) → ((x : List Bool) → begins q x ≡ false → get m x ≡ None) → empty ≡ outside m q
  outside_none m q f = same_map bits_total bits_same _ _
      (λ x. get-empty bits_cmp x ∙ sym (get-outside m q x ∙ by (begins q x) (get m x) (f x)))
    where
      by : (b : Bool) (o : Option X) → (b ≡ false → o ≡ None) → cond (not b) o None ≡ None
      by true o f = refl
      by false o f = f refl

  whole_cut : (k : ℕ) (q s : List Bool) (m : Seen X) → length s ≡ 5 * k → begins q s ≡ true
      → IsCut q (chain k s m).spares (empty {K = List Bool} {X = X}) empty
  whole_cut k q s m l a = record {
    off = λ x b. get-empty bits_cmp x ∙ by (begins q x) (get (chain k s m).spares x) (λ f. none x b f);
    on = λ x b. (λ t. absurd (none_found (get-empty bits_cmp x) t), λ t. absurd (none_found (none (x ++ t.1.0) t.1.2 t.1.3) t.1.1));
  }
    where
      none : (x : List Bool) → begins x q ≡ false → begins q x ≡ false → get (chain k s m).spares x ≡ None
      none x f g = no_spare k s x m l (false_from_ne_true _ (λ b. alike x q s f g b a))
          (false_from_ne_true _ (λ b. both_ways _ g (through q s x a b)))

      by : (b : Bool) (o : Option (Unit {0})) → (b ≡ false → o ≡ None) → None ≡ cond b None o
      by true o f = refl
      by false o f = sym (f refl)

  -- a node without entries and spare nodes is left of it
  chain_cut_whole : (k : ℕ) (q s : List Bool) (m d : Seen X) → length s ≡ 5 * suc k → begins q s ≡ true → d.entries ≡ empty
      → d.spares ≡ empty → d.levels ≡ 1
      → IsCutOut q (chain (suc k) s m) (len (chain (suc k) s m).entries, all_nodes (chain (suc k) s m) - 1) d
  chain_cut_whole k q s m d l a e f h = record {
    removed = record {
      map = e ∙ outside_none (chain (suc k) s m).entries q
          (λ x b. chain_none (suc k) x s m l (λ t. both_ways _ b (through q s x a (started (suc k) x s l t))));
      entries = omega (arith, ap len e, len-empty bits_cmp X);
      count = omega (arith, new_nodes d e (no_spares d f));
      levels = omega (arith, h);
    };
    spares = subst (λ (w : BitMap X × BitSet). IsCut q (chain (suc k) s m).spares w.0 w.1) (λ i. (sym e i, sym f i))
        (whole_cut (suc k) q s m l a);
  }

  -- ---- a node

  pub skipped_cut : {went : ℕ × ℕ} {q r : List Bool} {w n : Seen X} (k skip : ℕ) (e d : Seen X) → chain k (skipped k skip) e ≡ w
      → n ≡ chain k (skipped k skip) d → Starts k skip q → r ≡ drop (5 * k) q → IsFull d → IsCutOut r e went d → IsCutOut q w went n
  skipped_cut {went} {q} {r} {w} {n} k skip e d v j s f h x =
      let a = chain_along k q (skipped k skip) e s.0 s.1 in
      let b = chain_along k q (skipped k skip) d s.0 s.1 in
      subst (λ m. IsCutOut q m went n) (sym a ∙ v)
      (subst (IsCutOut q (chain k q e) went) (sym b ∙ sym j) (chain_cut k q r e d s.0 f h x))

  pub skipped_cut_bare : {went : ℕ × ℕ} {q r : List Bool} {w : Seen X} (k skip : ℕ) (e d : Seen X) → chain k (skipped k skip) e ≡ w
      → Starts k skip q → r ≡ drop (5 * k) q → IsBare d → IsCutOut r e went d → IsCutOut q w (went.0, went.1 + k) d
  skipped_cut_bare {went} {q} {r} {w} k skip e d v s f b x =
      let a = chain_along k q (skipped k skip) e s.0 s.1 in
      subst (λ m. IsCutOut q m (went.0, went.1 + k) d) (sym a ∙ v) (chain_cut_bare k q r e d s.0 f b x)

  -- off the way of the skipped levels nothing goes
  pub skipped_cut_none : {q : List Bool} {w : Seen X} (k skip : ℕ) (m : Seen X) → chain k (skipped k skip) m ≡ w
      → (0 < k → 5 * k < length q) → (Starts k skip q → ⊥) → IsCutOut q w (0, 0) w
  skipped_cut_none zero skip m v h f = absurd (f (omega arith, refl))
  skipped_cut_none {q} (suc k) skip m v h f =
      let s = skipped (suc k) skip in
      let l = length-digits (5 * suc k) skip in
      let j : 5 * suc k < length q = h (omega arith) in
      subst (λ n. IsCutOut q n (0, 0) n) v
      (chain_cut_off (suc k) q s m l (begins_longer q s (omega (arith, l, j))) (not_started (suc k) q s l f))

  pub skipped_cut_past : {q : List Bool} {w : Seen X} (k skip : ℕ) (m : Seen X) → chain k (skipped k skip) m ≡ w → length q ≤ 5 * k
      → begins q (skipped k skip) ≡ false → IsCutOut q w (0, 0) w
  skipped_cut_past {q} k skip m v h f =
      let s = skipped k skip in
      let l = length-digits (5 * k) skip in
      subst (λ n. IsCutOut q n (0, 0) n) v (chain_cut_off k q s m l f (not_longer q s (omega (arith, l, h)) f))

  -- on it all goes
  pub skipped_cut_whole : {q : List Bool} {w : Seen X} (k skip : ℕ) (m d : Seen X) → chain k (skipped k skip) m ≡ w → 0 < k
      → begins q (skipped k skip) ≡ true → d.entries ≡ empty → d.spares ≡ empty → d.levels ≡ 1
      → IsCutOut q w (len w.entries, all_nodes w - 1) d
  skipped_cut_whole zero skip m d v h a e f i = absurd (omega (arith, h))
  skipped_cut_whole {q} (suc k) skip m d v h a e f i =
      subst (λ n. IsCutOut q n (len n.entries, all_nodes n - 1) d) v
      (chain_cut_whole k q (skipped (suc k) skip) m d (length-digits (5 * suc k) skip) a e f i)

  -- ---- a key goes, and every node stays

  -- the key q went out of m, which is n then, with all its nodes; what stood there is out
  pub record IsTakenAlone (q : List Bool) (m : Seen X) (out : Option X) (n : Seen X) : Type 0 where
    pub value : out ≡ get m.entries q
    pub map : n.entries ≡ map.remove m.entries q
    pub spares : IsKept q m.entries m.spares n.entries n.spares
    pub count : all_nodes n ≡ all_nodes m
    pub levels : n.levels ≤ m.levels

  over_alone : {out : Option X} (q : List Bool) (e d : Seen X) → 5 ≤ length q → IsTakenAlone (drop 5 q) e out d
      → IsTakenAlone q (over (child_of q) e) out (over (child_of q) d)
  over_alone q e d h x =
      let s = over_seen (child_of q) e (number_bound 5 q) in
      let w = over_taken (child_of q) e (number_bound 5 q) in
      record {
        value = x.value ∙ was q e s h w refl;
        map = set_taken q e d s h w refl x.map;
        spares = kept_set q e d s h w refl x.map x.spares;
        count = omega (arith, set_count q e d s w refl, x.count);
        levels = omega (arith, set_height 0 d s, was_lower q e s w refl, x.levels);
      }

  chain_alone : {out : Option X} (k : ℕ) (q r : List Bool) (e d : Seen X) → 5 * k ≤ length q → r ≡ drop (5 * k) q
      → IsTakenAlone r e out d → IsTakenAlone q (chain k q e) out (chain k q d)
  chain_alone {out} zero q r e d l f x = subst (λ p. IsTakenAlone p e out d) f x
  chain_alone (suc k) q r e d l f x =
      let t = chain_step k q r l f in
      over_alone q (chain k (drop 5 q) e) (chain k (drop 5 q) d) (omega (arith, l)) (chain_alone k (drop 5 q) r e d t.0 t.1 x)

  pub skipped_alone : {out : Option X} {q r : List Bool} {w : Seen X} (k skip : ℕ) (e d : Seen X) → chain k (skipped k skip) e ≡ w
      → Starts k skip q → r ≡ drop (5 * k) q → IsTakenAlone r e out d → IsTakenAlone q w out (chain k (skipped k skip) d)
  skipped_alone {out} {q} {r} {w} k skip e d v s f x =
      let a = chain_along k q (skipped k skip) e s.0 s.1 in
      let b = chain_along k q (skipped k skip) d s.0 s.1 in
      subst (λ n. IsTakenAlone q n out (chain k (skipped k skip) d)) (sym a ∙ v)
      (subst (IsTakenAlone q (chain k q e) out) (sym b) (chain_alone k q r e d s.0 f x))

  pub none_alone : {out : Option X} (q : List Bool) (m : Seen X) → get m.entries q ≡ None → out ≡ None → IsTakenAlone q m out m
  none_alone q m a o = record {
    value = o ∙ sym a;
    map = sym (remove_absent m.entries q a);
    spares = kept_absent q m a;
    count = omega arith;
    levels = omega arith;
  }
