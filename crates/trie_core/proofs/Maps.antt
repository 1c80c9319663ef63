-- What a node's map has at a bit string, and how it changes.
use Rattle.std.proofs.Common.{◌≡◌, ◌<◌, ◌≤◌, Bool, true, false, cond, List, [], ◌∷◌, ◌++◌, length, take, drop, refl, sym, ap, ◌∙◌, subst, inl, inr, T, Option, Some, None, is_eq, length-append, drop_at, take_at, arith}
use Rattle.std.specs.FinMap.{entries, find, get, empty, is_sorted, get-entries, get-empty, get-from_entries, get-insert, get-remove, same_map}
use Rattle.std.specs.FinMap as map
use Rattle.std.specs.FinMap.Entries.{below_all}
use Rattle.ipnet_addr.proofs.Basics.{T-parts, less_from_T}
use Rattle.ipnet_blocks.specs.BitStrings.{bits_cmp}
use Rattle.trie_core.proofs.Strings.{bits_total, bits_same, same, same-Decides, same_false, same-under, other_length, front, not_same, same-refl}
use Rattle.trie_core.specs.Nodes.{BitMap, Seen}
use Rattle.trie_core.specs.InnerNodes.{AreShort, AreLong, under, child_entries, child_map, node_map, IsNode}
use Rattle.std.proofs.lemmas.Bool.{cases_lt, cases_Bool}

-- ---- strings that begin with the first five bits of q, or not

at_first : (q s : List Bool) → 5 ≤ length s → same (take 5 s) (take 5 q) ≡ true → take 5 q ++ drop 5 s ≡ s
at_first q s l e = ap (λ w. w ++ drop 5 s) (sym ((same-Decides (take 5 s) (take 5 q)).0 e)) ∙ (front s l).1

module _ (P : List Bool → Type 0) (q : List Bool) (short : (s : List Bool) → length s < 5 → P s) (under : (r : List Bool) → P (take 5 q ++ r)) (elsewhere : (s : List Bool) → 5 ≤ length s → same (take 5 s) (take 5 q) ≡ false → P s) where
  -- what holds of short strings, of those under the first five bits of q and of those under others holds of each
  pub each_string : (s : List Bool) → P s
  each_string s = elim (cases_lt (length s) 5) [
    | inl l ↦ short s l
    | inr l ↦ elim (cases_Bool (same (take 5 s) (take 5 q))) [
      | inl e ↦ subst P (at_first q s l e) (under (drop 5 s))
      | inr e ↦ elsewhere s l e
    ]
  ]

pub under_long : (q r : List Bool) → 5 ≤ length q → 5 ≤ length (take 5 q ++ r)
under_long q r h = omega (arith, length-append (take 5 q) r, (front q h).0)

-- ---- lists of entries

differs : (q b : List Bool) → length b ≡ 5 → (take 5 q ≡ b → ⊥) → (k : List Bool) → q ≡ b ++ k → ⊥
differs q b l n k e = n (ap (take 5) e ∙ take_at b k 5 l)

pub tail_rises : {Y : Type 0} (e : List Bool × Y) (es : List (List Bool × Y)) → T (is_sorted bits_cmp (e ∷ es)) → T (is_sorted bits_cmp es) × T (below_all bits_cmp e.0 es)
tail_rises e es h = let p = T-parts _ _ h in (p.1, p.0)

-- a string before all others is not among them
pub find_before : {Y : Type 0} (q : List Bool) (es : List (List Bool × Y)) → T (below_all bits_cmp q es) → find bits_cmp q es ≡ None
find_before q [] h = refl
find_before q (e ∷ es) h = let p = T-parts _ _ h in ap (λ o. cond (is_eq o) (Some e.1) (find bits_cmp q es)) (less_from_T _ p.0) ∙ find_before q es p.1

module _ {X : Type 0} where
  abbrev pub or_else : Option X → Option X → Option X
  or_else None p = p
  or_else (Some x) p = Some x

  pub find-append_all : (q : List Bool) (es fs : List (List Bool × X)) → find bits_cmp q (es ++ fs) ≡ or_else (find bits_cmp q es) (find bits_cmp q fs)
  find-append_all q [] fs = refl
  find-append_all q (e ∷ es) fs = grind (arith, find-append_all q es fs)

  pub find-under : (bs q : List Bool) (es : List (List Bool × X)) → find bits_cmp (bs ++ q) (under bs es) ≡ find bits_cmp q es
  find-under bs q [] = refl
  find-under bs q (e ∷ es) = λ i. cond (same-under bs q e.0 i) (Some e.1) (find-under bs q es i)

  pub find-apart : (bs q : List Bool) → ((k : List Bool) → q ≡ bs ++ k → ⊥) → (es : List (List Bool × X)) → find bits_cmp q (under bs es) ≡ None
  find-apart bs q f [] = refl
  find-apart bs q f (e ∷ es) = ap (λ b. cond b (Some e.1) (find bits_cmp q (under bs es))) (same_false q (bs ++ e.0) (f e.0)) ∙ find-apart bs q f es

  find-long : (q : List Bool) (vs : List (List Bool × X)) → 5 ≤ length q → AreShort vs → find bits_cmp q vs ≡ None
  find-long q [] h a = refl
  find-long q (e ∷ vs) h a =
      ap (λ b. cond b (Some e.1) (find bits_cmp q vs)) (other_length q e.0 (λ s. omega (arith, s, a.0, h))) ∙ find-long q vs h a.1

  find-children_none : (q : List Bool) (cs : List (List Bool × Seen X)) → length q < 5 → AreLong cs → find bits_cmp q (child_entries cs) ≡ None
  find-children_none q [] h a = refl
  find-children_none q (c ∷ cs) h a =
      find-append_all q (under c.0 (entries c.1.entries)) (child_entries cs)
      ∙ ap (λ o. or_else o (find bits_cmp q (child_entries cs))) (find-apart c.0 q (λ k e. omega (arith, ap length e, length-append c.0 k, a.0, h)) (entries c.1.entries))
      ∙ find-children_none q cs h a.1

  -- what the child that may be there has at r
  abbrev pub child_get : Option (Seen X) → List Bool → Option X
  child_get o r = get (child_map o) r

  pub get_none : (r : List Bool) → get (child_map {X = X} None) r ≡ None
  get_none r = get-empty bits_cmp r

  else_none : (o p : Option X) → p ≡ None → or_else o p ≡ o
  else_none o p e = grind arith

  pub find-child : (q : List Bool) (c : List Bool × Seen X) (cs : List (List Bool × Seen X)) → 5 ≤ length q → length c.0 ≡ 5 → T (below_all bits_cmp c.0 cs) → (b : Bool) → same (take 5 q) c.0 ≡ b
      → or_else (find bits_cmp q (under c.0 (entries c.1.entries))) (child_get (find bits_cmp (take 5 q) cs) (drop 5 q)) ≡ child_get (cond b (Some c.1) (find bits_cmp (take 5 q) cs)) (drop 5 q)
  find-child q c cs h l s true e =
      let m = (same-Decides _ _).0 e in
      let w : q ≡ c.0 ++ drop 5 q = sym (front q h).1 ∙ ap (λ bs. bs ++ drop 5 q) m in
      let z : find bits_cmp (take 5 q) cs ≡ None = ap (λ x. find bits_cmp x cs) m ∙ find_before c.0 cs s in
      else_none _ _ (ap (λ o. child_get o (drop 5 q)) z ∙ get_none (drop 5 q))
      ∙ ap (λ x. find bits_cmp x (under c.0 (entries c.1.entries))) w
      ∙ find-under c.0 (drop 5 q) (entries c.1.entries)
      ∙ sym (get-entries c.1.entries (drop 5 q))
  find-child q c cs h l s false e =
      ap (λ o. or_else o (child_get (find bits_cmp (take 5 q) cs) (drop 5 q))) (find-apart c.0 q (differs q c.0 l (not_same e)) (entries c.1.entries))

  find-children : (q : List Bool) (cs : List (List Bool × Seen X)) → 5 ≤ length q → AreLong cs → T (is_sorted bits_cmp cs) → find bits_cmp q (child_entries cs) ≡ child_get (find bits_cmp (take 5 q) cs) (drop 5 q)
  find-children q [] h a s = sym (get_none (drop 5 q))
  find-children q (c ∷ cs) h a s =
      find-append_all q (under c.0 (entries c.1.entries)) (child_entries cs)
      ∙ ap (or_else (find bits_cmp q (under c.0 (entries c.1.entries)))) (find-children q cs h a.1 (tail_rises c cs s).0)
      ∙ find-child q c cs h a.0 (tail_rises c cs s).1 (same (take 5 q) c.0) refl

  -- ---- what a node has

  pub get-short : {vs : List (List Bool × X)} {cs : List (List Bool × Seen X)} → IsNode vs cs → (q : List Bool) → length q < 5 → get (node_map vs cs) q ≡ find bits_cmp q vs
  unfolding node_map
  get-short {vs} {cs} n q h =
      get-from_entries bits_total (vs ++ child_entries cs) q
      ∙ find-append_all q vs (child_entries cs)
      ∙ else_none _ _ (find-children_none q cs h n.children_long)

  pub get-long : {vs : List (List Bool × X)} {cs : List (List Bool × Seen X)} → IsNode vs cs → (q : List Bool) → 5 ≤ length q → get (node_map vs cs) q ≡ child_get (find bits_cmp (take 5 q) cs) (drop 5 q)
  unfolding node_map
  get-long {vs} {cs} n q h =
      get-from_entries bits_total (vs ++ child_entries cs) q
      ∙ find-append_all q vs (child_entries cs)
      ∙ ap (λ o. or_else o (find bits_cmp q (child_entries cs))) (find-long q vs h n.values_short)
      ∙ find-children q cs h n.children_long n.children_rise

  -- at a string that goes on from five bits: what the child there has
  pub get-below : {vs : List (List Bool × X)} {cs : List (List Bool × Seen X)} → IsNode vs cs → (b r : List Bool) → length b ≡ 5 → get (node_map vs cs) (b ++ r) ≡ child_get (find bits_cmp b cs) r
  get-below {cs = cs} n b r l = get-long n (b ++ r) (omega (arith, length-append b r)) ∙ (λ i. child_get (find bits_cmp (take_at b r 5 l i) cs) (drop_at b r 5 l i))

  pub node_map-none : node_map {X = X} [] [] ≡ empty
  unfolding node_map
  node_map-none = refl

-- ---- changes

-- fs is es with o at q
abbrev pub ListChanges : {Y : Type 0} → List (List Bool × Y) → List Bool → Option Y → List (List Bool × Y) → Type 0
ListChanges es q o fs = (p : List Bool) → find bits_cmp p fs ≡ cond (same p q) o (find bits_cmp p es)

pub found_changed : {Y : Type 0} (es fs : List (List Bool × Y)) (q : List Bool) (o : Option Y) → ListChanges es (take 5 q) o fs → find bits_cmp (take 5 q) fs ≡ o
found_changed es fs q o c = c (take 5 q) ∙ ap (λ b. cond b o (find bits_cmp (take 5 q) es)) (same-refl (take 5 q))

same_under_first : (q r : List Bool) → 5 ≤ length q → same (take 5 q ++ r) q ≡ same r (drop 5 q)
same_under_first q r h = ap (same (take 5 q ++ r)) (sym (front q h).1) ∙ same-under (take 5 q) r (drop 5 q)

-- what a node has at a string that goes on from five bits is what `at` tells of the child there: with that child on the way to q the change is made, with any other none
pub child_changes : {X Y : Type 0} (at : Option (Seen X) → List Bool → Option Y) (change : List Bool → Option Y → Option Y) (cs ds : List (List Bool × Seen X)) (q : List Bool) (o : Option (Seen X)) (f g : List Bool → Option Y)
    → ((x : List Bool) → 5 ≤ length x → f x ≡ at (find bits_cmp (take 5 x) cs) (drop 5 x)) → ((x : List Bool) → 5 ≤ length x → g x ≡ at (find bits_cmp (take 5 x) ds) (drop 5 x)) → 5 ≤ length q → ListChanges cs (take 5 q) o ds
    → ((x : List Bool) → length x < 5 → g x ≡ change x (f x)) → ((r : List Bool) → at o r ≡ change (take 5 q ++ r) (at (find bits_cmp (take 5 q) cs) r)) → ((x : List Bool) (p : Option Y) → 5 ≤ length x → same (take 5 x) (take 5 q) ≡ false → change x p ≡ p)
    → (x : List Bool) → g x ≡ change x (f x)
child_changes at change cs ds q o f g a b h c short below other = each_string (λ x. g x ≡ change x (f x)) q short
    (λ r.
    let l = under_long q r h in
    let i = (front q h).0 in
    b (take 5 q ++ r) l ∙ (λ j. at (find bits_cmp (take_at (take 5 q) r 5 i j) ds) (drop_at (take 5 q) r 5 i j)) ∙ ap (λ d. at d r) (found_changed cs ds q o c)
    ∙ below r ∙ ap (change (take 5 q ++ r)) (sym (a (take 5 q ++ r) l ∙ (λ j. at (find bits_cmp (take_at (take 5 q) r 5 i j) cs) (drop_at (take 5 q) r 5 i j)))))
    (λ x l e. b x l ∙ ap (λ d. at d (drop 5 x)) (c (take 5 x) ∙ ap (λ t. cond t o (find bits_cmp (take 5 x) cs)) e) ∙ sym (other x (f x) l e ∙ a x l))

module _ {X : Type 0} where
  -- n is m with w at q
  abbrev pub Changes : BitMap X → List Bool → Option X → BitMap X → Type 0
  Changes m q w n = (x : List Bool) → get n x ≡ cond (same x q) w (get m x)

  changed_short : {vs us : List (List Bool × X)} {cs : List (List Bool × Seen X)} (q : List Bool) (w : Option X) → IsNode vs cs → IsNode us cs → length q < 5
      → ListChanges vs q w us → Changes (node_map vs cs) q w (node_map us cs)
  changed_short {vs} {us} {cs} q w n k h f x = elim (cases_lt (length x) 5) [
    | inl l ↦ get-short k x l ∙ f x ∙ ap (λ o. cond (same x q) w o) (sym (get-short n x l))
    | inr l ↦ get-long k x l ∙ sym (get-long n x l) ∙ ap (λ b. cond b w (get (node_map vs cs) x)) (sym (other_length x q (λ s. omega arith)))
  ]

  changed_long : {vs : List (List Bool × X)} {cs ds : List (List Bool × Seen X)} (q : List Bool) (w : Option X) (o : Option (Seen X)) → IsNode vs cs → IsNode vs ds → 5 ≤ length q
      → ListChanges cs (take 5 q) o ds
      → ((r : List Bool) → child_get o r ≡ cond (same r (drop 5 q)) w (child_get (find bits_cmp (take 5 q) cs) r)) → Changes (node_map vs cs) q w (node_map vs ds)
  changed_long {vs} {cs} {ds} q w o n k h f g = child_changes child_get (λ x p. cond (same x q) w p) cs ds q o (get (node_map vs cs)) (get (node_map vs ds)) (get-long n) (get-long k) h f
      (λ x l. get-short k x l ∙ sym (get-short n x l) ∙ ap (λ b. cond b w (get (node_map vs cs) x)) (sym (other_length x q (λ s. omega arith))))
      (λ r. g r ∙ ap (λ b. cond b w (child_get (find bits_cmp (take 5 q) cs) r)) (sym (same_under_first q r h)))
      (λ x p l e. ap (λ b. cond b w p) (same_false x q (λ s. not_same e (ap (take 5) s))))

  pub insert_changes : (m : BitMap X) (q : List Bool) (v : X) → Changes m q (Some v) (map.insert m q v)
  insert_changes m q v x = get-insert bits_total m q v x

  -- what was stored is there
  pub get-written : (m : BitMap X) (q : List Bool) (w : X) → get (map.insert m q w) q ≡ Some w
  get-written m q w = insert_changes m q w q ∙ ap (λ b. cond b (Some w) (get m q)) (same-refl q)

  pub remove_changes : (m : BitMap X) (q : List Bool) → Changes m q None (map.remove m q)
  remove_changes m q x = get-remove bits_total m q x

  changes_same : (m : BitMap X) (q : List Bool) (w : Option X) {n k : BitMap X} → Changes m q w n → Changes m q w k → n ≡ k
  changes_same m q w f g = same_map bits_total bits_same _ _ (λ x. f x ∙ sym (g x))

  -- ---- what each change of a list makes of the map

  pub value_put : {vs us : List (List Bool × X)} {cs : List (List Bool × Seen X)} (q : List Bool) (v : X) → IsNode vs cs → IsNode us cs → length q < 5 → ListChanges vs q (Some v) us → node_map us cs ≡ map.insert (node_map vs cs) q v
  value_put q v n k h f = changes_same _ _ _ (changed_short q (Some v) n k h f) (insert_changes _ q v)

  pub value_taken : {vs us : List (List Bool × X)} {cs : List (List Bool × Seen X)} (q : List Bool) → IsNode vs cs → IsNode us cs → length q < 5 → ListChanges vs q None us → node_map us cs ≡ map.remove (node_map vs cs) q
  value_taken q n k h f = changes_same _ _ _ (changed_short q None n k h f) (remove_changes _ q)

  -- the child on the way gets a key
  pub child_put : {vs : List (List Bool × X)} {cs ds : List (List Bool × Seen X)} (q : List Bool) (v : X) (d : Seen X) → IsNode vs cs → IsNode vs ds → 5 ≤ length q → ListChanges cs (take 5 q) (Some d) ds
      → d.entries ≡ map.insert (child_map (find bits_cmp (take 5 q) cs)) (drop 5 q) v → node_map vs ds ≡ map.insert (node_map vs cs) q v
  child_put q v d n k h f e =
      changes_same _ _ _ (changed_long q (Some v) (Some d) n k h f (λ r. ap (λ m. get m r) e ∙ insert_changes _ (drop 5 q) v r)) (insert_changes _ q v)

  -- a key of the child on the way goes
  pub child_taken : {vs : List (List Bool × X)} {cs ds : List (List Bool × Seen X)} (q : List Bool) (o : Option (Seen X)) → IsNode vs cs → IsNode vs ds → 5 ≤ length q → ListChanges cs (take 5 q) o ds
      → child_map o ≡ map.remove (child_map (find bits_cmp (take 5 q) cs)) (drop 5 q) → node_map vs ds ≡ map.remove (node_map vs cs) q
  child_taken q o n k h f e =
      changes_same _ _ _ (changed_long q None o n k h f (λ r. ap (λ m. get m r) e ∙ remove_changes _ (drop 5 q) r)) (remove_changes _ q)

  -- a key that is not there
  pub remove_absent : (m : BitMap X) (q : List Bool) → get m q ≡ None → map.remove m q ≡ m
  remove_absent m q e = same_map bits_total bits_same _ _ (λ x. remove_changes m q x ∙ elim (cases_Bool (same x q)) [
    | inl s ↦ ap (λ b. cond b None (get m x)) s ∙ sym (ap (get m) ((same-Decides x q).0 s) ∙ e)
    | inr s ↦ ap (λ b. cond b None (get m x)) s
  ])
