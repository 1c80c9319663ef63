-- A walk that asks of the entries of a map in turn, and takes out those that are refused.
use Rattle.std.proofs.Common.{◌≡◌, ℕ, ◌<◌, ◌≤◌, Bool, true, false, cond, not, List, [], ◌∷◌, ◌++◌, length, append_assoc, refl, sym, ap, subst, ◌∙◌, T, Option, Some, None, IfSome, Less, is_lt, IsSome, length-append, append-nil, arith}
use Rattle.std.specs.List.{items_where_true, FoldsTo}
use Rattle.std.specs.List.Retain.{ReturnsInTurn}
use Rattle.std.specs.FinMap.{find, get, remove, entries, is_sorted, entries_sorted, get-entries, get-remove}
use Rattle.std.specs.FinMap.Entries.{where_key, below_all, same_entries, is_sorted-where_key, find-where_key}
use Rattle.trie_core.proofs.Named.{less_differs, turned}
use Rattle.ipnet_addr.proofs.Basics.{T-parts, less_from_T}
use Rattle.trie_core.specs.Bits.{is_from}
use Rattle.ipnet_blocks.specs.BitStrings.{bits_cmp}
use Rattle.trie_core.proofs.Strings.{bits_total, bits_same, same, same-refl, same_false}
use Rattle.trie_core.specs.Nodes.{BitMap}
use Rattle.trie_core.proofs.Maps.{tail_rises}
use Rattle.trie_core.proofs.Frames.{bits_alike}
use Rattle.prefix_trie.specs.Maps.{first_key}
use Rattle.prefix_trie.specs.Retain.{CallableInTurn}
use Rattle.std.proofs.lemmas.Cmp.{tied_itself}

-- ---- the order of strings

not_before : (q : List Bool) → is_lt (bits_cmp q q) ≡ false
not_before q = ap is_lt (tied_itself bits_total q)

pub not_after : (p q : List Bool) → bits_cmp p q ≡ Less → is_lt (bits_cmp q p) ≡ false
not_after p q e = grind (arith, bits_total.antisymm q p)

before_from : (p q : List Bool) (i : Bool) → bits_cmp p q ≡ Less → is_from q i p ≡ false
before_from p q i e = grind (arith, not_after p q)

after_from : (p q : List Bool) (i : Bool) → bits_cmp p q ≡ Less → is_from p i q ≡ true
after_from p q i e = grind (arith, not_after p q)

here_from : (q : List Bool) (i : Bool) → is_from q i q ≡ i
here_from q i = grind (arith, not_before q)

module _ {X : Type 0} where
  -- ---- an entry of a sorted list

  is_above : (n : List Bool) (ks : List (List Bool × X)) (e : List Bool × X) (es : List (List Bool × X)) → T (below_all bits_cmp n (ks ++ e ∷ es)) → bits_cmp n e.0 ≡ Less
  is_above n [] e es h = less_from_T _ (T-parts _ _ h).0
  is_above n (k ∷ ks) e es h = is_above n ks e es (T-parts _ _ h).1

  where_above : (p : List Bool → Bool) (n : List Bool) (es : List (List Bool × X)) → T (below_all bits_cmp n es) → ((k : List Bool) → bits_cmp n k ≡ Less → p k ≡ true) → where_key bits_cmp p es ≡ es
  where_above p n [] h f = refl
  where_above p n (e ∷ es) h f =
      let t = T-parts _ _ h in
      ap (λ b. cond b (e ∷ where_key bits_cmp p es) (where_key bits_cmp p es)) (f e.0 (less_from_T _ t.0)) ∙ ap (λ l. e ∷ l) (where_above p n es t.1 f)

  -- p is a before the entry, b at it, and holds after it
  where_split : (p : List Bool → Bool) (a b : Bool) (ks : List (List Bool × X)) (e : List Bool × X) (es : List (List Bool × X)) → T (is_sorted bits_cmp (ks ++ e ∷ es))
      → ((k : List Bool) → bits_cmp k e.0 ≡ Less → p k ≡ a) → p e.0 ≡ b → ((k : List Bool) → bits_cmp e.0 k ≡ Less → p k ≡ true) → where_key bits_cmp p (ks ++ e ∷ es) ≡ cond a ks [] ++ cond b (e ∷ es) es
  where_split p a b [] e es h f g k =
      let w = where_above p e.0 es (tail_rises e es h).1 k in
      let none : cond b (e ∷ es) es ≡ cond a [] [] ++ cond b (e ∷ es) es = grind arith in
      ap (λ t. cond t (e ∷ where_key bits_cmp p es) (where_key bits_cmp p es)) g ∙ ap (λ l. cond b (e ∷ l) l) w ∙ none
  where_split p a b (d ∷ ks) e es h f g k =
      let t = tail_rises d (ks ++ e ∷ es) h in
      let more : cond a (d ∷ cond a ks [] ++ cond b (e ∷ es) es) (cond a ks [] ++ cond b (e ∷ es) es) ≡ cond a (d ∷ ks) [] ++ cond b (e ∷ es) es = grind arith in
      ap (λ c. cond c (d ∷ where_key bits_cmp p (ks ++ e ∷ es)) (where_key bits_cmp p (ks ++ e ∷ es))) (f d.0 (is_above d.0 ks e es t.1)) ∙ ap (λ l. cond a (d ∷ l) l) (where_split p a b ks e es t.0 f g k) ∙ more

  from_here : (i : Bool) (ks : List (List Bool × X)) (e : List Bool × X) (es : List (List Bool × X)) → T (is_sorted bits_cmp (ks ++ e ∷ es)) → where_key bits_cmp (is_from e.0 i) (ks ++ e ∷ es) ≡ cond i (e ∷ es) es
  from_here i ks e es h = where_split (is_from e.0 i) false i ks e es h (λ k l. before_from k e.0 i l) (here_from e.0 i) (λ k l. after_from e.0 k i l)

  find_here : (ks : List (List Bool × X)) (e : List Bool × X) (es : List (List Bool × X)) → T (is_sorted bits_cmp (ks ++ e ∷ es)) → find bits_cmp e.0 (ks ++ e ∷ es) ≡ Some e.1
  find_here [] e es h = ap (λ b. cond b (Some e.1) (find bits_cmp e.0 es)) (same-refl e.0)
  find_here (k ∷ ks) e es h =
      let t = tail_rises k (ks ++ e ∷ es) h in
      ap (λ b. cond b (Some k.1) (find bits_cmp e.0 (ks ++ e ∷ es))) (same_false e.0 k.0 (λ s. less_differs k.0 e.0 (is_above k.0 ks e es t.1) (sym s))) ∙ find_here ks e es t.0

  entries-remove : (m : BitMap X) (q : List Bool) → entries (remove m q) ≡ where_key bits_cmp (λ k. not (same k q)) (entries m)
  entries-remove m q = same_entries bits_cmp bits_total bits_same _ _ (entries_sorted (remove m q)) (is_sorted-where_key bits_cmp (λ k. not (same k q)) (entries m) (entries_sorted m))
      (λ x. sym (get-entries (remove m q) x) ∙ get-remove bits_total m q x ∙ ap (λ o. cond (same x q) None o) (get-entries m x) ∙ sym (turned (same x q) (find bits_cmp x (entries m)) None)
      ∙ sym (find-where_key bits_cmp (λ k. not (same k q)) x (bits_alike (λ k. not (same k q)) x) (entries m)))

  remove_here : (m : BitMap X) (ks : List (List Bool × X)) (e : List Bool × X) (es : List (List Bool × X)) → entries m ≡ ks ++ e ∷ es → entries (remove m e.0) ≡ ks ++ es
  remove_here m ks e es h =
      let apart : (k : List Bool) → bits_cmp k e.0 ≡ Less → not (same k e.0) ≡ true = λ k l. ap not (same_false k e.0 (less_differs k e.0 l)) in
      let later : (k : List Bool) → bits_cmp e.0 k ≡ Less → not (same k e.0) ≡ true = λ k l. ap not (same_false k e.0 (λ s. less_differs e.0 k l (sym s))) in
      entries-remove m e.0 ∙ ap (where_key bits_cmp (λ k. not (same k e.0))) h
      ∙ where_split (λ k. not (same k e.0)) true false ks e es (subst (λ l. T (is_sorted bits_cmp l)) h (entries_sorted m)) apart (ap not (same-refl e.0)) later

-- how many entries are left to be asked
abbrev pub left_count : {X : Type 0} → Option (List Bool) → BitMap X → ℕ
left_count None m = 0
left_count (Some q) m = length (where_key bits_cmp (is_from q true) (entries m))

-- of what is told of a key that is there, how long it is
pub lengths : {X : Type 0} (n : ℕ) (m : BitMap X) (o : Option (List Bool)) → IfSome o (λ q. (length q ≤ 128) × (length q ≤ n) × IsSome (get m q)) → IfSome o (λ q. (length q ≤ 128) × (length q ≤ n))
lengths n m None h = tt
lengths n m (Some q) h = (h.0, h.1)

module _ {F X : Type 0} (R : F → List Bool × X → Bool → F → Type 0) where
  -- R went from f over the entries of m before `rest`, and came to g; n has those of which it said `true`, and `rest`
  pub record IsAsked (f : F) (m : BitMap X) (g : F) (n : BitMap X) (next : Option (List Bool)) : Type 0 where
    pub asked : List (List Bool × X)
    pub rest : List (List Bool × X)
    pub answers : List Bool
    pub counted : length answers ≡ length asked
    pub returns : ReturnsInTurn R f answers asked g
    pub whole : entries m ≡ asked ++ rest
    pub left : entries n ≡ items_where_true answers asked ++ rest
    pub next_is : next ≡ first_key rest

  returns_more : (f g h : F) (bs : List Bool) (es : List (List Bool × X)) (b : Bool) (e : List Bool × X) → length bs ≡ length es → ReturnsInTurn R f bs es g → R g e b h → ReturnsInTurn R f (bs ++ b ∷ []) (es ++ e ∷ []) h
  returns_more f g h [] [] b e l r s = (h, subst (λ p. R p e b h) (sym r) s, refl)
  returns_more f g h [] (d ∷ es) b e l r s = absurd (omega arith)
  returns_more f g h (a ∷ bs) [] b e l r s = absurd (omega arith)
  returns_more f g h (a ∷ bs) (d ∷ es) b e l r s = (r.0, r.1, returns_more r.0 g h bs es b e (omega arith) r.2 s)

  pub asked_start : (f : F) (m : BitMap X) {next : Option (List Bool)} → next ≡ first_key (entries m) → IsAsked f m f m next
  asked_start f m e = record { asked = []; rest = entries m; answers = []; counted = refl; returns = refl; whole = refl; left = refl; next_is = e }

  first_of : (q : List Bool) (es : List (List Bool × X)) → Some q ≡ first_key es → (v : X) × (fs : List (List Bool × X)) × (es ≡ (q, v) ∷ fs)
  first_of q [] e = cc
  first_of q (d ∷ es) e = let p : d.0 ≡ q = cc in (d.1, es, ap (λ k. (k, d.1) ∷ es) p)

  count_by : (n : BitMap X) (ks es : List (List Bool × X)) (next : Option (List Bool)) → entries n ≡ ks ++ es → next ≡ first_key es → left_count next n ≡ length es
  count_by n ks [] next h e = ap (λ o. left_count o n) e
  count_by n ks (d ∷ es) next h e =
      ap (λ o. left_count o n) e ∙ ap (λ l. length (where_key bits_cmp (is_from d.0 true) l)) h ∙ ap length (from_here true ks d es (subst (λ l. T (is_sorted bits_cmp l)) h (entries_sorted n)))

  items_more : (bs : List Bool) (es : List (List Bool × X)) (b : Bool) (e : List Bool × X) → length bs ≡ length es → items_where_true (bs ++ b ∷ []) (es ++ e ∷ []) ≡ items_where_true bs es ++ cond b (e ∷ []) []
  items_more [] [] b e l = grind arith
  items_more [] (d ∷ es) b e l = absurd (omega arith)
  items_more (a ∷ bs) [] b e l = absurd (omega arith)
  items_more (a ∷ bs) (d ∷ es) b e l = grind (arith, items_more bs es b e)

  left_more : (n : BitMap X) (ks : List (List Bool × X)) (b : Bool) (e : List Bool × X) (es : List (List Bool × X)) → entries n ≡ ks ++ e ∷ es → entries (cond b n (remove n e.0)) ≡ (ks ++ cond b (e ∷ []) []) ++ es
  left_more n ks true e es h = h ∙ sym (append_assoc ks (e ∷ []) es)
  left_more n ks false e es h = remove_here n ks e es h ∙ ap (λ l. l ++ es) (sym (append-nil ks))

  -- the entry of the key that comes next
  record IsHere (q : List Bool) (n : BitMap X) (ks rest : List (List Bool × X)) : Type 0 where
    value : X
    after : List (List Bool × X)
    rest_is : rest ≡ (q, value) ∷ after
    entries_are : entries n ≡ ks ++ (q, value) ∷ after
    found : get n q ≡ Some value

  here : {f g : F} {m n : BitMap X} {q : List Bool} (t : IsAsked f m g n (Some q)) → IsHere q n (items_where_true t.answers t.asked) t.rest
  here {n = n} {q = q} t =
      let w = first_of q t.rest t.next_is in
      let ks = items_where_true t.answers t.asked in
      let z : entries n ≡ items_where_true t.answers t.asked ++ (q, (first_of q t.rest t.next_is).0) ∷ (first_of q t.rest t.next_is).1 = t.left ∙ ap (λ r. ks ++ r) w.2 in
      record { value = w.0; after = w.1; rest_is = w.2; entries_are = z; found = get-entries n q ∙ ap (find bits_cmp q) z ∙ find_here ks (q, w.0) w.1 (subst (λ r. T (is_sorted bits_cmp r)) z (entries_sorted n)) }

  none_some : {v : X} {o : Option X} → None ≡ o → o ≡ Some v → ⊥
  none_some e f = cc

  calls_told : (f g : F) (bs : List Bool) (es : List (List Bool × X)) → length bs ≡ length es → ReturnsInTurn R f bs es g → FoldsTo (λ p x q. (b : Bool) × R p x b q) f es g
  calls_told f g [] [] l r = r
  calls_told f g [] (e ∷ es) l r = absurd (omega arith)
  calls_told f g (b ∷ bs) [] l r = absurd (omega arith)
  calls_told f g (b ∷ bs) (e ∷ es) l r = (r.0, (b, r.1), calls_told r.0 g bs es (omega arith) r.2)

  -- the entry that comes next may be asked of
  pub asked_next : {f g : F} {m n : BitMap X} {o : Option (List Bool)} (Q : F → List Bool × X → Type 0) (q k : List Bool) (v : X) → CallableInTurn R Q f (entries m) → IsAsked f m g n o → o ≡ Some q → k ≡ q → Some v ≡ get n k → Q g (q, v)
  asked_next {f} {g} {m} {n} Q q k v c t o e s =
      let a : IsAsked f m g n (Some q) = subst (λ x. IsAsked f m g n x) o t in
      let w = here a in
      let z : w.value ≡ v = let y = s ∙ ap (get n) e ∙ w.found in cc in
      subst (λ x. Q g (q, x)) z (c.at a.asked w.after (q, w.value) g (a.whole ∙ ap (λ r. a.asked ++ r) w.rest_is) (calls_told f g a.answers a.asked a.counted a.returns))

  pub asked_stored : {f g : F} {m n : BitMap X} {o : Option (List Bool)} (q k : List Bool) → IsAsked f m g n o → o ≡ Some q → k ≡ q → None ≡ get n k → ⊥
  asked_stored {f} {g} {m} {n} q k t o s e = none_some (e ∙ ap (get n) s) (here (subst (λ x. IsAsked f m g n x) o t)).found

  asked_by : {f g h : F} {m n : BitMap X} {q : List Bool} {next : Option (List Bool)} (v : X) (b : Bool) → IsAsked f m g n (Some q) → Some v ≡ get n q → R g (q, v) b h → next ≡ first_key (where_key bits_cmp (is_from q false) (entries n))
      → IsAsked f m h (cond b n (remove n q)) next × (left_count next (cond b n (remove n q)) < left_count (Some q) n)
  asked_by {f} {g} {h} {m} {n} {q} {next} v b t s r e =
      let w = here t in
      let ks = items_where_true t.answers t.asked in
      let p : w.value ≡ v = let z = s ∙ w.found in cc in
      let r' : R g (q, w.value) b h = subst (λ x. R g (q, x) b h) (sym p) r in
      let sorted = subst (λ l. T (is_sorted bits_cmp l)) w.entries_are (entries_sorted n) in
      let after : where_key bits_cmp (is_from q false) (entries n) ≡ w.after = ap (where_key bits_cmp (is_from q false)) w.entries_are ∙ from_here false ks (q, w.value) w.after sorted in
      let next_is : next ≡ first_key w.after = e ∙ ap first_key after in
      let left = left_more n ks b (q, w.value) w.after w.entries_are in (
        record {
          asked = t.asked ++ (q, w.value) ∷ [];
          rest = w.after;
          answers = t.answers ++ b ∷ [];
          counted = omega (arith, length-append t.answers (b ∷ []), length-append t.asked ((q, w.value) ∷ []), t.counted);
          returns = returns_more f g h t.answers t.asked b (q, w.value) t.counted t.returns r';
          whole = t.whole ∙ ap (λ l. t.asked ++ l) w.rest_is ∙ sym (append_assoc t.asked ((q, w.value) ∷ []) w.after);
          left = left ∙ ap (λ l. l ++ w.after) (sym (items_more t.answers t.asked b (q, w.value) t.counted));
          next_is = next_is;
        },
        omega (arith, count_by (cond b n (remove n q)) (ks ++ cond b ((q, w.value) ∷ []) []) w.after next left next_is, ap (λ l. length (where_key bits_cmp (is_from q true) l)) w.entries_are, ap length (from_here true ks (q, w.value) w.after sorted)),
      )

  -- it is asked, and the key k is its bits
  pub asked_more : {f g h : F} {m n l : BitMap X} {o next : Option (List Bool)} (q k : List Bool) (v : X) (b : Bool) → IsAsked f m g n o → o ≡ Some q → k ≡ q → Some v ≡ get n k → R g (q, v) b h → next ≡ first_key (where_key bits_cmp (is_from q false) (entries n)) → l ≡ cond b n (remove n k)
      → IsAsked f m h l next × (left_count next l < left_count o n)
  asked_more {f} {g} {h} {m} {n} {l} {o} {next} q k v b t p e s r z w =
      let n' : l ≡ cond b n (remove n q) = w ∙ ap (λ x. cond b n (remove n x)) e in
      rw (n', p) (asked_by v b (subst (λ x. IsAsked f m g n x) p t) (s ∙ ap (get n) e) r z)
