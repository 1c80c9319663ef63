-- The entries of a node, one after another.
use Rattle.std.proofs.Common.{◌≡◌, ◌<◌, ◌≤◌, Bool, true, false, cond, List, [], ◌∷◌, ◌++◌, length, take, drop, refl, sym, ap, subst, ◌∙◌, inl, inr, T, Option, Some, None, is_some, Ordering, Less, is_lt, length-append, length-take, append-nil, take-append-drop, take_all, arith}
use Rattle.std.specs.FinMap.{entries, find, get, is_sorted, entries_sorted, get-entries, empty}
use Rattle.std.specs.FinMap.Entries.{below_all, same_entries}
use Rattle.ipnet_addr.proofs.Basics.{T-and, T-parts, less_from_T}
use Rattle.ipnet_blocks.specs.BitStrings.{bits_cmp}
use Rattle.trie_core.specs.InnerWalks.{first_value}
use Rattle.trie_core.specs.Nodes.{BitMap, Seen}
use Rattle.trie_core.specs.InnerNodes.{under, node_map, IsNode}
use Rattle.trie_core.proofs.Strings.{bits_total, bits_same, same, same-refl, same-Decides, other_length, bits_cmp-under}
use Rattle.trie_core.proofs.Maps.{tail_rises, or_else, find-append_all, find-apart, find-child, child_get, get-short, get-long, get_none, node_map-none}
use Rattle.std.proofs.lemmas.Bool.{cases_lt, cases_Bool}

-- ---- the order of strings

pub less_right : (xs ys zs : List Bool) → bits_cmp xs ys ≡ Less → bits_cmp xs (ys ++ zs) ≡ Less
less_right xs ys [] e = ap (bits_cmp xs) (append-nil ys) ∙ e
less_right xs ys (z ∷ zs) e = bits_total.trans xs ys (ys ++ z ∷ zs) e (ap (λ w. bits_cmp w (ys ++ z ∷ zs)) (sym (append-nil ys)) ∙ bits_cmp-under ys [] (z ∷ zs))

pub less_left : (xs ys zs : List Bool) → length ys ≤ length xs → bits_cmp xs ys ≡ Less → bits_cmp (xs ++ zs) ys ≡ Less
less_left [] ys zs h e = grind arith
less_left (x ∷ xs) ys zs h e = grind (arith, less_left xs)

pub less_trans : (xs ys zs : List Bool) → bits_cmp xs ys ≡ Less → bits_cmp ys zs ≡ Less → bits_cmp xs zs ≡ Less
less_trans xs ys zs e f = bits_total.trans xs ys zs e f

pub T-less : (o : Ordering) → o ≡ Less → T (is_lt o)
T-less o e = subst (λ r. T (is_lt r)) (sym e) tt

module _ {Y : Type 0} where
  found_above_by : (n k : List Bool) (e : List Bool × Y) (es : List (List Bool × Y)) → bits_cmp n e.0 ≡ Less → (is_some (find bits_cmp k es) ≡ true → bits_cmp n k ≡ Less) → (b : Bool) → same k e.0 ≡ b → is_some (cond b (Some e.1) (find bits_cmp k es)) ≡ true → bits_cmp n k ≡ Less
  found_above_by n k e es l r true s f = ap (bits_cmp n) ((same-Decides _ _).0 s) ∙ l
  found_above_by n k e es l r false s f = r f

  -- a string that is found is above one that is below all
  pub found_above : (n k : List Bool) (es : List (List Bool × Y)) → T (below_all bits_cmp n es) → is_some (find bits_cmp k es) ≡ true → bits_cmp n k ≡ Less
  found_above n k [] h s = cc
  found_above n k (e ∷ es) h s = let p = T-parts _ _ h in found_above_by n k e es (less_from_T _ p.0) (found_above n k es p.1) (same k e.0) refl s

  lower : (n m : List Bool) (es : List (List Bool × Y)) → bits_cmp n m ≡ Less → T (below_all bits_cmp m es) → T (below_all bits_cmp n es)
  lower n m [] h b = tt
  lower n m (e ∷ es) h b = let p = T-parts _ _ b in T-and _ _ (T-less _ (less_trans n m e.0 h (less_from_T _ p.0))) (lower n m es h p.1)

  -- the list begins after n
  abbrev pub StartsAfter : List Bool → List (List Bool × Y) → Type 0
  StartsAfter n [] = Unit {0}
  StartsAfter n (c ∷ cs) = bits_cmp n c.0 ≡ Less

  pub starts_above : (n : List Bool) (es : List (List Bool × Y)) → StartsAfter n es → T (is_sorted bits_cmp es) → T (below_all bits_cmp n es)
  starts_above n [] h s = tt
  starts_above n (c ∷ cs) h s = T-and _ _ (T-less _ h) (lower n c.0 cs h (tail_rises c cs s).1)

module _ {X : Type 0} where
  pub later_found : (b : Bool) (x : X) (o : Option X) → is_some o ≡ true → is_some (cond b (Some x) o) ≡ true
  later_found b x o e = grind arith

  -- a string is before all entries where it is before all keys
  pub below_found : (b : List Bool) (es : List (List Bool × X)) → ((q : List Bool) → is_some (find bits_cmp q es) ≡ true → bits_cmp b q ≡ Less) → T (below_all bits_cmp b es)
  below_found b [] f = tt
  below_found b (e ∷ es) f =
      T-and _ _ (T-less _ (f e.0 (ap (λ x. is_some (cond x (Some e.1) (find bits_cmp e.0 es))) (same-refl e.0))))
      (below_found b es (λ q h. f q (later_found (same q e.0) e.1 (find bits_cmp q es) h)))

  child_found : (o : Option (Seen X)) (r : List Bool) → is_some (child_get o r) ≡ true → is_some o ≡ true
  child_found None r e = let z = ap is_some (get_none {X = X} r) in cc
  child_found (Some m) r e = refl

  pub found_long : {vs : List (List Bool × X)} {cs : List (List Bool × Seen X)} → IsNode vs cs → (q : List Bool) → 5 ≤ length q → is_some (get (node_map vs cs) q) ≡ true → is_some (find bits_cmp (take 5 q) cs) ≡ true
  found_long n q h e = child_found _ (drop 5 q) (sym (ap is_some (get-long n q h)) ∙ e)

  -- a string n of at most five bits that is below both lists, with r after it where it has five, is below all keys
  above : {vs : List (List Bool × X)} {cs : List (List Bool × Seen X)} → IsNode vs cs → (n r : List Bool) → (length n < 5 → r ≡ []) → length n ≤ 5 → T (below_all bits_cmp n vs) → T (below_all bits_cmp n cs) → (q : List Bool) → is_some (get (node_map vs cs) q) ≡ true → bits_cmp (n ++ r) q ≡ Less
  above {vs} {cs} m n r z l a b q e = ap (bits_cmp (n ++ r)) (sym (take-append-drop 5 q)) ∙ less_right (n ++ r) (take 5 q) (drop 5 q) longer
    where
      first : bits_cmp n (take 5 q) ≡ Less
      first = elim (cases_lt (length q) 5) [
        | inl s ↦ ap (bits_cmp n) (take_all 5 q (omega arith)) ∙ found_above n q vs a (sym (ap is_some (get-short m q s)) ∙ e)
        | inr s ↦ found_above n (take 5 q) cs b (found_long m q s e)
      ]

      longer : bits_cmp (n ++ r) (take 5 q) ≡ Less
      longer = elim (cases_lt (length n) 5) [
        | inl k ↦ ap (λ x. bits_cmp (n ++ x) (take 5 q)) (z k) ∙ ap (λ x. bits_cmp x (take 5 q)) (append-nil n) ∙ first
        | inr k ↦ less_left n (take 5 q) r (omega (arith, length-take 5 q)) first
      ]

  pub found_get : (m : BitMap X) (q : List Bool) → is_some (find bits_cmp q (entries m)) ≡ true → is_some (get m q) ≡ true
  found_get m q e = ap is_some (get-entries m q) ∙ e

  -- the node without its first value, and without its first child
  pub without_value : {vs : List (List Bool × X)} {cs : List (List Bool × Seen X)} {e : List Bool × X} → IsNode (e ∷ vs) cs → IsNode vs cs
  without_value {vs} {cs} {e} n = record { values_rise = (tail_rises e vs n.values_rise).0; values_short = n.values_short.1; children_rise = n.children_rise; children_long = n.children_long }

  pub without_child : {vs : List (List Bool × X)} {cs : List (List Bool × Seen X)} {c : List Bool × Seen X} → IsNode vs (c ∷ cs) → IsNode vs cs
  without_child {vs} {cs} {c} n = record { values_rise = n.values_rise; values_short = n.values_short; children_rise = (tail_rises c cs n.children_rise).0; children_long = n.children_long.1 }

  more_value : {vs : List (List Bool × X)} {cs : List (List Bool × Seen X)} {e : List Bool × X} → IsNode (e ∷ vs) cs → (q : List Bool) → get (node_map (e ∷ vs) cs) q ≡ cond (same q e.0) (Some e.1) (get (node_map vs cs) q)
  more_value {vs} {cs} {e} n q = elim (cases_lt (length q) 5) [
    | inl l ↦ get-short n q l ∙ ap (cond (same q e.0) (Some e.1)) (sym (get-short (without_value n) q l))
    | inr l ↦ get-long n q l ∙ sym (get-long (without_value n) q l) ∙ ap (λ b. cond b (Some e.1) (get (node_map vs cs) q)) (sym (other_length q e.0 (λ s. omega (arith, n.values_short.0))))
  ]

  -- a walk gives the first value, where no child is before it
  pub walk_value : {vs : List (List Bool × X)} {cs : List (List Bool × Seen X)} {e : List Bool × X} → IsNode (e ∷ vs) cs → StartsAfter e.0 cs → entries (node_map (e ∷ vs) cs) ≡ (e.0, e.1) ∷ entries (node_map vs cs)
  walk_value {vs} {cs} {e} n h =
      let b : (q : List Bool) → is_some (find bits_cmp q (entries (node_map vs cs))) ≡ true → bits_cmp e.0 q ≡ Less = λ q s.
      ap (λ x. bits_cmp x q) (sym (append-nil e.0))
      ∙ above (without_value n) e.0 [] (λ _. refl) (omega (arith, n.values_short.0)) (tail_rises e vs n.values_rise).1 (starts_above e.0 cs h n.children_rise) q (found_get (node_map vs cs) q s) in
      same_entries bits_cmp bits_total bits_same _ _ (entries_sorted (node_map (e ∷ vs) cs))
      (T-and _ _ (below_found e.0 (entries (node_map vs cs)) b) (entries_sorted (node_map vs cs)))
      (λ q. sym (get-entries (node_map (e ∷ vs) cs) q) ∙ more_value n q ∙ ap (cond (same q e.0) (Some e.1)) (get-entries (node_map vs cs) q))

  more_child : {vs : List (List Bool × X)} {cs : List (List Bool × Seen X)} {c : List Bool × Seen X} → IsNode vs (c ∷ cs) → (q : List Bool) → get (node_map vs (c ∷ cs)) q ≡ or_else (find bits_cmp q (under c.0 (entries c.1.entries))) (get (node_map vs cs) q)
  more_child {vs} {cs} {c} n q = elim (cases_lt (length q) 5) [
    | inl l ↦
        get-short n q l ∙ sym (get-short (without_child n) q l)
        ∙ ap (λ o. or_else o (get (node_map vs cs) q)) (sym (find-apart c.0 q (λ k e. omega (arith, ap length e, length-append c.0 k, n.children_long.0)) (entries c.1.entries)))
    | inr l ↦
        get-long n q l ∙ sym (find-child q c cs l n.children_long.0 (tail_rises c cs n.children_rise).1 (same (take 5 q) c.0) refl)
        ∙ ap (or_else (find bits_cmp q (under c.0 (entries c.1.entries)))) (sym (get-long (without_child n) q l))
  ]

  pub below_under : (bs x : List Bool) (es : List (List Bool × X)) → T (below_all bits_cmp x es) → T (below_all bits_cmp (bs ++ x) (under bs es))
  below_under bs x [] h = tt
  below_under bs x (e ∷ es) h = let p = T-parts _ _ h in T-and _ _ (T-less _ (bits_cmp-under bs x e.0 ∙ less_from_T _ p.0)) (below_under bs x es p.1)

  pub below_append : (x : List Bool) (es fs : List (List Bool × X)) → T (below_all bits_cmp x es) → T (below_all bits_cmp x fs) → T (below_all bits_cmp x (es ++ fs))
  below_append x [] fs g h = h
  below_append x (e ∷ es) fs g h = let p = T-parts _ _ g in T-and _ _ p.0 (below_append x es fs p.1 h)

  pub sorted_under : (bs : List Bool) (es fs : List (List Bool × X)) → T (is_sorted bits_cmp es) → T (is_sorted bits_cmp fs) → ((x : List Bool) → T (below_all bits_cmp (bs ++ x) fs)) → T (is_sorted bits_cmp (under bs es ++ fs))
  sorted_under bs [] fs g h f = h
  sorted_under bs (e ∷ es) fs g h f = let p = T-parts _ _ g in T-and _ _ (below_append (bs ++ e.0) (under bs es) fs (below_under bs e.0 es p.0) (f e.0)) (sorted_under bs es fs p.1 h f)

  -- what comes after the first child
  pub after_keys : {vs : List (List Bool × X)} {cs : List (List Bool × Seen X)} {c : List Bool × Seen X} → IsNode vs (c ∷ cs) → StartsAfter c.0 vs → (r q : List Bool) → is_some (get (node_map vs cs) q) ≡ true → bits_cmp (c.0 ++ r) q ≡ Less
  after_keys {vs} {cs} {c} n h r q s =
      above (without_child n) c.0 r (λ l. absurd (omega (arith, n.children_long.0))) (omega (arith, n.children_long.0)) (starts_above c.0 vs h n.values_rise) (tail_rises c cs n.children_rise).1 q s

  -- a walk gives the first child's entries, where no value is before it
  pub walk_child : {vs : List (List Bool × X)} {cs : List (List Bool × Seen X)} {c : List Bool × Seen X} → IsNode vs (c ∷ cs) → StartsAfter c.0 vs → entries (node_map vs (c ∷ cs)) ≡ under c.0 (entries c.1.entries) ++ entries (node_map vs cs)
  walk_child {vs} {cs} {c} n h =
      same_entries bits_cmp bits_total bits_same _ _ (entries_sorted (node_map vs (c ∷ cs)))
      (sorted_under c.0 (entries c.1.entries) (entries (node_map vs cs)) (entries_sorted c.1.entries) (entries_sorted (node_map vs cs))
      (λ r. below_found (c.0 ++ r) (entries (node_map vs cs)) (λ q s. after_keys n h r q (found_get (node_map vs cs) q s))))
      (λ q. sym (get-entries (node_map vs (c ∷ cs)) q) ∙ more_child n q ∙ ap (or_else (find bits_cmp q (under c.0 (entries c.1.entries)))) (get-entries (node_map vs cs) q)
      ∙ sym (find-append_all q (under c.0 (entries c.1.entries)) (entries (node_map vs cs))))

  pub walk_none : entries (node_map {X = X} [] []) ≡ []
  walk_none = ap entries node_map-none ∙ same_entries bits_cmp bits_total bits_same (entries empty) [] (entries_sorted empty) tt (λ q. sym (get-entries empty q) ∙ get_none {X = X} q)

-- ---- whether a walk gives the first value next, or the first child's entries

pub is_less : (o : Ordering) → is_lt o ≡ true → o ≡ Less
is_less o e = less_from_T o (rw e tt)

-- strings of other lengths are not the same: the one or the other is less
turned : (xs ys : List Bool) → (xs ≡ ys → ⊥) → is_lt (bits_cmp xs ys) ≡ false → bits_cmp ys xs ≡ Less
turned xs ys n e = grind (arith, bits_total.antisymm xs ys, bits_same xs ys)

module _ {X : Type 0} where
  pub starts_after : (e : List Bool × X) (vs : List (List Bool × X)) (cs : List (List Bool × Seen X)) → first_value (e ∷ vs) cs ≡ true → StartsAfter e.0 cs
  starts_after e vs [] b = tt
  starts_after e vs (c ∷ cs) b = is_less _ b

  pub values_after : (vs : List (List Bool × X)) (c : List Bool × Seen X) (cs : List (List Bool × Seen X)) → IsNode vs (c ∷ cs) → first_value vs (c ∷ cs) ≡ false → StartsAfter c.0 vs
  values_after [] c cs n b = tt
  values_after (e ∷ vs) c cs n b = turned e.0 c.0 (λ p. omega (arith, ap length p, n.values_short.0, n.children_long.0)) b

-- what holds of a node without values and children, and of one by what a walk gives first of it, holds of each
module _ {X : Type 0} (P : List (List Bool × X) → List (List Bool × Seen X) → Type 0) (none : P [] [])
    (value : (e : List Bool × X) (vs : List (List Bool × X)) (cs : List (List Bool × Seen X)) → IsNode (e ∷ vs) cs → StartsAfter e.0 cs → P vs cs → P (e ∷ vs) cs)
    (child : (vs : List (List Bool × X)) (c : List Bool × Seen X) (cs : List (List Bool × Seen X)) → IsNode vs (c ∷ cs) → StartsAfter c.0 vs → P vs cs → P vs (c ∷ cs)) where
  pub each_node : (vs : List (List Bool × X)) (cs : List (List Bool × Seen X)) → IsNode vs cs → P vs cs
  each_node [] [] n = none
  each_node [] (c ∷ cs) n = child [] c cs n tt (each_node [] cs (without_child n))
  each_node (e ∷ vs) [] n = value e vs [] n tt (each_node vs [] (without_value n))
  each_node (e ∷ vs) (c ∷ cs) n = elim (cases_Bool (first_value (e ∷ vs) (c ∷ cs))) [
    | inl b ↦ value e vs (c ∷ cs) n (starts_after e vs (c ∷ cs) b) (each_node vs (c ∷ cs) (without_value n))
    | inr b ↦ child (e ∷ vs) c cs n (values_after (e ∷ vs) c cs n b) (each_node (e ∷ vs) cs (without_child n))
  ]
