-- Lists of numbered things, with strings in place of the numbers.
use Rattle.std.proofs.Common.{◌≡◌, ℕ, zero, suc, ◌+◌, ◌/◌, ◌%◌, ◌^◌, ◌<◌, ◌≤◌, Bool, cond, not, List, [], ◌∷◌, length, take, refl, sym, ap, subst, ◌∙◌, inl, inr, T, Option, Some, None, count_ones, Ordering, Less, arith}
use Rattle.std.specs.Ordering.{nat_cmp, eq_by_cmp, is_eq, ordering_reverse}
use Rattle.std.specs.FinMap.{find, put, is_sorted}
use Rattle.std.specs.FinMap.Entries.{below_all, by_order, where_key, find-put, find-where_key}
use Rattle.std.proofs.lemmas.Bool.Decides.{nat_tests}
use Rattle.std.proofs.lemmas.Bool.{cases_order}
use Rattle.ipnet_addr.proofs.Basics.{T-and, T-parts, less_from_T}
use Rattle.ipnet_blocks.specs.BitStrings.{bits_cmp}
use Rattle.trie_core.specs.InnerPlaces.{place_of, child_of, place_string, child_string, at_places, AllBelow, without, named, value_list, child_list}
use Rattle.trie_core.specs.Nodes.{Seen}
use Rattle.trie_core.specs.InnerNodes.{AreShort, AreLong, IsNode}
use Rattle.trie_core.proofs.Strings.{same, same-refl, bits_total, bits_same}
use Rattle.trie_core.proofs.Maps.{ListChanges}
use Rattle.trie_core.proofs.Order.{T-less}
use Rattle.trie_core.proofs.Count.{things}
use Rattle.trie_core.proofs.Numbers.{ones_bit, place_bound, number_bound, place_string-place_of, child_string-child_of, place_less, place_strings, number_less, child_of-string, length-child_string}
use Rattle.trie_core.proofs.Places.{ones_half}
use Rattle.trie_core.proofs.Edits.{low_bit, at_step, at_first, at_sorted}
use Rattle.std.proofs.lemmas.Cmp.{tied_itself, nat_cmp_total, eq_by_cmp_equiv}

-- f names the numbers below w by strings that rise with them
pub record IsNaming (f : ℕ → List Bool) (w : ℕ) : Type 0 where
  pub rises : (n m : ℕ) → n < m → m < w → bits_cmp (f n) (f m) ≡ Less

pub places_named : IsNaming place_string 31
places_named = record {
  rises = λ n m h l.
      let a = place_strings n (omega (arith, h, l)) in
      let b = place_strings m l in
      place_less 5 (place_string n) (place_string m) a.short b.short (omega (arith, a.place, b.place, h));
}

pub children_named : IsNaming child_string 32
children_named = record {
  rises = λ n m h l.
      number_less 5 (child_string n) (child_string m) (length-child_string n) (length-child_string m) (omega (arith, child_of-string n (omega (arith, h, l)), child_of-string m l, h));
}

pub less_differs : (xs ys : List Bool) → bits_cmp xs ys ≡ Less → xs ≡ ys → ⊥
less_differs xs ys e p = let z : Less ≡ bits_cmp ys ys = sym e ∙ ap (λ x. bits_cmp x ys) p in let t = ap is_eq z ∙ same-refl ys in cc

-- the strings stand in the order of their numbers
name_order : {f : ℕ → List Bool} {w : ℕ} → IsNaming f w → (n m : ℕ) → n < w → m < w → bits_cmp (f n) (f m) ≡ nat_cmp n m
name_order {f} a n m h l = elim (cases_order n m) [
  | inl e ↦ ap (λ k. bits_cmp (f n) (f k)) (sym e) ∙ tied_itself bits_total (f n) ∙ sym (tied_itself nat_cmp_total n) ∙ ap (nat_cmp n) e
  | inr (inl p) ↦ a.rises n m p l ∙ grind (arith, nat_tests)
  | inr (inr p) ↦ bits_total.antisymm (f n) (f m) ∙ ap ordering_reverse (a.rises m n p h) ∙ grind (arith, nat_tests)
]

pub turned : {Y : Type 0} (b : Bool) (o p : Option Y) → cond (not b) o p ≡ cond b p o
turned b o p = grind arith

module _ {X : Type 0} where
  pub named_find : (f : ℕ → List Bool) (w n : ℕ) (es : List (ℕ × X)) → IsNaming f w → n < w → AllBelow w es → find bits_cmp (f n) (named f es) ≡ find nat_cmp n es
  named_find f w n [] a h b = refl
  named_find f w n (e ∷ es) a h b = λ i. cond (is_eq (name_order a n e.0 h b.0 i)) (Some e.1) (named_find f w n es a h b.1 i)

  named_by : (f : ℕ → List Bool) (r : Ordering) (bs cs ds : List (ℕ × X)) → named f (by_order r bs cs ds) ≡ by_order r (named f bs) (named f cs) (named f ds)
  named_by f r bs cs ds = grind arith

  named-put : (f : ℕ → List Bool) (w n : ℕ) (v : X) (es : List (ℕ × X)) → IsNaming f w → n < w → AllBelow w es → named f (put nat_cmp n v es) ≡ put bits_cmp (f n) v (named f es)
  named-put f w n v [] a h b = refl
  named-put f w n v (e ∷ es) a h b =
      named_by f (nat_cmp n e.0) ((n, v) ∷ e ∷ es) ((e.0, v) ∷ es) (e ∷ put nat_cmp n v es)
      ∙ (λ i. by_order (sym (name_order a n e.0 h b.0) i) ((f n, v) ∷ named f (e ∷ es)) ((f e.0, v) ∷ named f es) ((f e.0, e.1) ∷ named-put f w n v es a h b.1 i))

  -- a thing that is put in is found, and the others as before
  pub named_put : (f : ℕ → List Bool) (w n : ℕ) (v : X) (es : List (ℕ × X)) → IsNaming f w → n < w → AllBelow w es → ListChanges (named f es) (f n) (Some v) (named f (put nat_cmp n v es))
  named_put f w n v es a h b p = ap (find bits_cmp p) (named-put f w n v es a h b) ∙ find-put bits_cmp bits_total p (f n) v (named f es)

  named_if : (f : ℕ → List Bool) (b : Bool) (bs cs : List (ℕ × X)) → named f (cond b bs cs) ≡ cond b (named f bs) (named f cs)
  named_if f b cs ds = grind arith

  -- those whose numbers pass the test have the names that pass it
  named-where : (f : ℕ → List Bool) (w : ℕ) (p : ℕ → Bool) (q : List Bool → Bool) (es : List (ℕ × X)) → ((k : ℕ) → k < w → p k ≡ q (f k)) → AllBelow w es → named f (where_key nat_cmp p es) ≡ where_key bits_cmp q (named f es)
  named-where f w p q [] h b = refl
  named-where f w p q (e ∷ es) h b =
      named_if f (p e.0) (e ∷ where_key nat_cmp p es) (where_key nat_cmp p es) ∙ (λ i. cond (h e.0 b.0 i) ((f e.0, e.1) ∷ named-where f w p q es h b.1 i) (named-where f w p q es h b.1 i))

  -- a thing that is taken out is not found, and the others as before
  pub named_without : (f : ℕ → List Bool) (w n : ℕ) (es : List (ℕ × X)) → IsNaming f w → n < w → AllBelow w es → ListChanges (named f es) (f n) None (named f (without n es))
  named_without f w n es a h b p =
      ap (find bits_cmp p) (named-where f w (λ k. not (eq_by_cmp nat_cmp n k)) (λ s. not (same (f n) s)) es (λ k l. ap (λ r. not (is_eq r)) (sym (name_order a n k h l))) b)
      ∙ find-where_key bits_cmp (λ s. not (same (f n) s)) p (λ x e. ap (λ s. not (same (f n) s)) (sym (bits_same p x e))) (named f es)
      ∙ turned (same (f n) p) (find bits_cmp p (named f es)) None ∙ ap (λ t. cond t None (find bits_cmp p (named f es))) ((eq_by_cmp_equiv bits_total).symm (f n) p)

  named_above : (f : ℕ → List Bool) (w n : ℕ) (es : List (ℕ × X)) → IsNaming f w → AllBelow w es → T (below_all nat_cmp n es) → T (below_all bits_cmp (f n) (named f es))
  named_above f w n [] a b s = tt
  named_above f w n (e ∷ es) a b s =
      let p = T-parts _ _ s in
      let l = less_from_T _ p.0 in
      T-and _ _ (T-less _ (a.rises n e.0 (grind (arith, nat_tests)) b.0)) (named_above f w n es a b.1 p.1)

  -- the strings rise with the numbers
  pub named_sorted : (f : ℕ → List Bool) (w : ℕ) (es : List (ℕ × X)) → IsNaming f w → AllBelow w es → T (is_sorted nat_cmp es) → T (is_sorted bits_cmp (named f es))
  named_sorted f w [] a b s = tt
  named_sorted f w (e ∷ es) a b s = let p = T-parts _ _ s in T-and _ _ (named_above f w e.0 es a b.1 p.0) (named_sorted f w es a b.1 p.1)

  -- the places of a word of h bits are below h
  pub at_below : (w n h bits : ℕ) (xs : List X) → bits < 2 ^ h → AllBelow (n + h) (at_places w n bits xs)
  at_below zero n h bits xs b = tt
  at_below (suc w) n h bits [] b = tt
  at_below (suc w) n zero bits (x ∷ xs) b =
      let o : bits % 2 ≡ 0 = omega (arith, b) in
      let z : bits / 2 ≡ bits = omega (arith, b) in
      rw (at_step w n bits (x ∷ xs) o) (later (n + 0) w (suc n) (bits / 2) (x ∷ xs) (omega (arith, b)))
    where
      later : (m w n bits : ℕ) (xs : List X) → bits ≡ 0 → AllBelow m (at_places w n bits xs)
      later m zero n bits xs b = tt
      later m (suc w) n bits [] b = tt
      later m (suc w) n bits (x ∷ xs) b = rw (at_step w n bits (x ∷ xs) (omega (arith, b))) (later m w (suc n) (bits / 2) (x ∷ xs) (omega (arith, b)))
  at_below (suc w) n (suc h) bits (x ∷ xs) b =
      let l : bits / 2 < 2 ^ h = omega arith in
      let e : suc n + h ≡ n + suc h = omega arith in
      elim (low_bit bits) [
        | inl o ↦ rw (at_step w n bits (x ∷ xs) o) (subst (λ m. AllBelow m (at_places w (suc n) (bits / 2) (x ∷ xs))) e (at_below w (suc n) h (bits / 2) (x ∷ xs) l))
        | inr o ↦ rw (at_first w n bits x xs o) (omega arith, subst (λ m. AllBelow m (at_places w (suc n) (bits / 2) xs)) e (at_below w (suc n) h (bits / 2) xs l))
      ]

  things_at : (f : ℕ → List Bool) (w n bits : ℕ) (xs : List X) → bits < 2 ^ w → count_ones bits ≡ length xs → things (named f (at_places w n bits xs)) ≡ xs
  things_at f zero n bits [] b e = refl
  things_at f zero n bits (x ∷ xs) b e = let z : bits ≡ 0 = omega (arith, b) in absurd (omega (arith, e, ap count_ones z, ones_bit 0 (omega arith)))
  things_at f (suc w) n bits [] b e = refl
  things_at f (suc w) n bits (x ∷ xs) b e = elim (low_bit bits) [
    | inl o ↦ ap (λ es. things (named f es)) (at_step w n bits (x ∷ xs) o) ∙ things_at f w (suc n) (bits / 2) (x ∷ xs) (omega (arith, b)) (omega (arith, ones_half bits, e, o))
    | inr o ↦ ap (λ es. things (named f es)) (at_first w n bits x xs o) ∙ ap (λ ys. x ∷ ys) (things_at f w (suc n) (bits / 2) xs (omega (arith, b)) (omega (arith, ones_half bits, e, o)))
  ]

  -- ---- the lists of a node

  pub value_things : (bits : ℕ) (xs : List X) → bits < 2 ^ 31 → count_ones bits ≡ length xs → things (value_list bits xs) ≡ xs
  unfolding value_list
  value_things bits xs b e = things_at place_string 32 0 bits xs (omega (arith, b)) e

  pub child_things : (bits : ℕ) (xs : List X) → bits < 2 ^ 32 → count_ones bits ≡ length xs → things (child_list bits xs) ≡ xs
  unfolding child_list
  child_things bits xs b e = things_at child_string 32 0 bits xs b e

  pub values_short : (es : List (ℕ × X)) → AllBelow 31 es → AreShort (named place_string es)
  values_short [] b = tt
  values_short (e ∷ es) b = ((place_strings e.0 b.0).short, values_short es b.1)

  pub children_long : (es : List (ℕ × X)) → AreLong (named child_string es)
  children_long [] = tt
  children_long (e ∷ es) = (length-child_string e.0, children_long es)

  pub values_below : (bits : ℕ) (xs : List X) → bits < 2 ^ 31 → AllBelow 31 (at_places 32 0 bits xs)
  values_below bits xs b = at_below 32 0 31 bits xs b

  pub children_below : (bits : ℕ) (xs : List X) → bits < 2 ^ 32 → AllBelow 32 (at_places 32 0 bits xs)
  children_below bits xs b = at_below 32 0 32 bits xs b

  -- what is found at a string, by its number
  pub value_found : (q : List Bool) (bits : ℕ) (xs : List X) → length q < 5 → bits < 2 ^ 31 → find bits_cmp q (value_list bits xs) ≡ find nat_cmp (place_of q) (at_places 32 0 bits xs)
  unfolding value_list
  value_found q bits xs h b =
      ap (λ s. find bits_cmp s (named place_string (at_places 32 0 bits xs))) (sym (place_string-place_of q h))
      ∙ named_find place_string 31 (place_of q) (at_places 32 0 bits xs) places_named (omega (arith, place_bound 5 q h)) (values_below bits xs b)

  pub child_found : (q : List Bool) (bits : ℕ) (xs : List X) → 5 ≤ length q → bits < 2 ^ 32 → find bits_cmp (take 5 q) (child_list bits xs) ≡ find nat_cmp (child_of q) (at_places 32 0 bits xs)
  unfolding child_list
  child_found q bits xs h b =
      ap (λ s. find bits_cmp s (named child_string (at_places 32 0 bits xs))) (sym (child_string-child_of q h))
      ∙ named_find child_string 32 (child_of q) (at_places 32 0 bits xs) children_named (number_bound 5 q) (children_below bits xs b)

  -- what an edit at a number changes
  pub value_put_in : (q : List Bool) (v : X) (bits more : ℕ) (xs ys : List X) → length q < 5 → bits < 2 ^ 31 → at_places 32 0 more ys ≡ put nat_cmp (place_of q) v (at_places 32 0 bits xs) → ListChanges (value_list bits xs) q (Some v) (value_list more ys)
  unfolding value_list
  value_put_in q v bits more xs ys h b e p =
      ap (λ es. find bits_cmp p (named place_string es)) e
      ∙ named_put place_string 31 (place_of q) v (at_places 32 0 bits xs) places_named (omega (arith, place_bound 5 q h)) (values_below bits xs b) p
      ∙ ap (λ s. cond (same p s) (Some v) (find bits_cmp p (named place_string (at_places 32 0 bits xs)))) (place_string-place_of q h)

  pub value_taken_out : (q : List Bool) (bits less : ℕ) (xs ys : List X) → length q < 5 → bits < 2 ^ 31 → at_places 32 0 less ys ≡ without (place_of q) (at_places 32 0 bits xs) → ListChanges (value_list bits xs) q None (value_list less ys)
  unfolding value_list
  value_taken_out q bits less xs ys h b e p =
      ap (λ es. find bits_cmp p (named place_string es)) e
      ∙ named_without place_string 31 (place_of q) (at_places 32 0 bits xs) places_named (omega (arith, place_bound 5 q h)) (values_below bits xs b) p
      ∙ ap (λ s. cond (same p s) None (find bits_cmp p (named place_string (at_places 32 0 bits xs)))) (place_string-place_of q h)

  pub child_put_in : (q : List Bool) (v : X) (bits more : ℕ) (xs ys : List X) → 5 ≤ length q → bits < 2 ^ 32 → at_places 32 0 more ys ≡ put nat_cmp (child_of q) v (at_places 32 0 bits xs) → ListChanges (child_list bits xs) (take 5 q) (Some v) (child_list more ys)
  unfolding child_list
  child_put_in q v bits more xs ys h b e p =
      ap (λ es. find bits_cmp p (named child_string es)) e
      ∙ named_put child_string 32 (child_of q) v (at_places 32 0 bits xs) children_named (number_bound 5 q) (children_below bits xs b) p
      ∙ ap (λ s. cond (same p s) (Some v) (find bits_cmp p (named child_string (at_places 32 0 bits xs)))) (child_string-child_of q h)

  pub child_taken_out : (q : List Bool) (bits less : ℕ) (xs ys : List X) → 5 ≤ length q → bits < 2 ^ 32 → at_places 32 0 less ys ≡ without (child_of q) (at_places 32 0 bits xs) → ListChanges (child_list bits xs) (take 5 q) None (child_list less ys)
  unfolding child_list
  child_taken_out q bits less xs ys h b e p =
      ap (λ es. find bits_cmp p (named child_string es)) e
      ∙ named_without child_string 32 (child_of q) (at_places 32 0 bits xs) children_named (number_bound 5 q) (children_below bits xs b) p
      ∙ ap (λ s. cond (same p s) None (find bits_cmp p (named child_string (at_places 32 0 bits xs)))) (child_string-child_of q h)

module _ {X : Type 0} where
  -- the lists of a node, whatever its words
  pub is_node : (value_bits : ℕ) (values : List X) (child_bits : ℕ) (children : List (Seen X)) → value_bits < 2 ^ 31 → child_bits < 2 ^ 32 → IsNode (value_list value_bits values) (child_list child_bits children)
  unfolding value_list child_list
  is_node vb vs cb cs b d = record {
    values_rise = named_sorted place_string 31 (at_places 32 0 vb vs) places_named (values_below vb vs b) (at_sorted 32 0 vb vs);
    values_short = values_short (at_places 32 0 vb vs) (values_below vb vs b);
    children_rise = named_sorted child_string 32 (at_places 32 0 cb cs) children_named (at_below 32 0 32 cb cs d) (at_sorted 32 0 cb cs);
    children_long = children_long (at_places 32 0 cb cs);
  }
