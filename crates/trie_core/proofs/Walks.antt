-- The stack of a walk, and the way down to where a walk starts.
use Rattle.std.proofs.Common.{◌≡◌, ℕ, suc, ◌+◌, ◌*◌, ◌<◌, ◌≤◌, Bool, true, false, cond, not, List, [], ◌∷◌, ◌++◌, length, take, drop, refl, sym, ap, subst, ◌∙◌, inl, inr, T, Option, Some, None, is_some, Less, is_lt, append_assoc, take-append-drop, append-nil, take_at, length-append, length-drop, arith}
use Rattle.std.specs.FinMap.{is_sorted, find, entries, get, get-entries, entries_sorted, empty}
use Rattle.std.specs.FinMap.Entries.{where_key, find-where_key, is_sorted-where_key, same_entries}
use Rattle.std.proofs.lemmas.Bool.{false_from_ne_true, and_right, cases_Bool}
use Rattle.trie_core.specs.Bits.{is_from}
use Rattle.ipnet_blocks.specs.BitStrings.{bits_cmp, begins}
use Rattle.trie_core.specs.InnerPlaces.{child_of, child_string}
use Rattle.trie_core.specs.InnerWalks.{is_past, KeysWithin, Left, walk_rest, walk_weight, FitFrom}
use Rattle.trie_core.specs.Prefixes.{prefix_bits}
use Rattle.trie_core.specs.Nodes.{BitMap, Seen}
use Rattle.trie_core.specs.InnerNodes.{under}
use Rattle.trie_core.specs.InnerSearch.{IsChild, HasNoChild}
use Rattle.trie_core.proofs.Strings.{bits_total, bits_same, same, same-Decides, same-refl, not_same, front, bits_cmp-under}
use Rattle.ipnet_blocks.proofs.BitStrings.{begins_take, begins-under}
use Rattle.trie_core.proofs.Count.{under-append}
use Rattle.trie_core.proofs.Maps.{or_else, find-append_all, find-under, find-apart, get_none, node_map-none}
use Rattle.trie_core.proofs.Order.{sorted_under, below_found, walk_none, later_found}
use Rattle.trie_core.proofs.Numbers.{child_string-child_of}
use Rattle.trie_core.proofs.Frames.{child_bits, bits_alike, under-under, under_none, found_where}

-- ---- the stack

module _ {X : Type 0} where
  rest-append : (fs : List (Left X)) (f : Left X) → walk_rest (fs ++ f ∷ []) ≡ f.0 ++ walk_rest fs
  rest-append [] f = sym (append-nil f.0)
  rest-append (g ∷ fs) f = ap (λ ws. ws ++ g.0) (rest-append fs f) ∙ append_assoc f.0 (walk_rest fs) g.0

  weight-append : (fs : List (Left X)) (f : Left X) → walk_weight (fs ++ f ∷ []) ≡ f.2 + 1 + walk_weight fs
  weight-append [] f = refl
  weight-append (g ∷ fs) f = omega (arith, weight-append fs f)

  fit_open : (i : ℕ) (fs : List (Left X)) (f : Left X) → FitFrom i (fs ++ f ∷ []) → FitFrom i fs × (0 < f.1) × (i + length fs + f.1 ≤ 26)
  fit_open i [] f a = (tt, a.0, omega (arith, a.1))
  fit_open i (g ∷ fs) f a = let r = fit_open (suc i) fs f a.2 in ((a.0, a.1, r.0), r.1, omega (arith, r.2))

  fit_close : (i : ℕ) (fs : List (Left X)) (f : Left X) → FitFrom i fs → 0 < f.1 → i + length fs + f.1 ≤ 26 → FitFrom i (fs ++ f ∷ [])
  fit_close i [] f a p l = (p, omega (arith, l), tt)
  fit_close i (g ∷ fs) f a p l = (a.0, a.1, fit_close (suc i) fs f a.2 p (omega (arith, l)))

  -- gs is fs with the frame f on top
  pub record IsTop (gs fs : List (Left X)) (f : Left X) : Type 0 where
    pub whole : FitFrom 0 gs
    pub below : FitFrom 0 fs
    pub positive : 0 < f.1
    pub levels : length fs + f.1 ≤ 26
    pub rest : walk_rest gs ≡ f.0 ++ walk_rest fs
    pub weight : walk_weight gs ≡ f.2 + 1 + walk_weight fs
    pub count : length gs ≡ length fs + 1

  pub popped : {gs fs : List (Left X)} {f : Left X} → FitFrom 0 gs → gs ≡ fs ++ f ∷ [] → IsTop gs fs f
  popped {gs} {fs} {f} a e =
      let r = fit_open 0 fs f (subst (λ hs. FitFrom 0 hs) e a) in
      record {
        whole = a;
        below = r.0;
        positive = r.1;
        levels = omega (arith, r.2);
        rest = ap walk_rest e ∙ rest-append fs f;
        weight = ap walk_weight e ∙ weight-append fs f;
        count = ap length e ∙ length-append fs (f ∷ []);
      }

  pub pushed : {gs fs : List (Left X)} {f : Left X} → FitFrom 0 fs → 0 < f.1 → length fs + f.1 ≤ 26 → gs ≡ fs ++ f ∷ [] → IsTop gs fs f
  pushed {gs} {fs} {f} a p l e = popped (subst (λ hs. FitFrom 0 hs) (sym e) (fit_close 0 fs f a p (omega (arith, l)))) e

  pub entry_step : {ds fs gs : List (Left X)} {f g : Left X} (e : List Bool × X) → IsTop ds fs f → f.0 ≡ e ∷ g.0 → IsTop gs fs g → walk_rest ds ≡ e ∷ walk_rest gs
  entry_step {fs = fs} e p s q = p.rest ∙ ap (λ es. es ++ walk_rest fs) s ∙ ap (λ es. e ∷ es) (sym q.rest)

  pub below_step : {ds fs gs hs : List (Left X)} {f g h : Left X} → IsTop ds fs f → f.0 ≡ h.0 ++ g.0 → IsTop gs fs g → IsTop hs gs h → walk_rest ds ≡ walk_rest hs
  below_step {fs = fs} {g = g} {h = h} p s q r = p.rest ∙ ap (λ es. es ++ walk_rest fs) s ∙ append_assoc h.0 g.0 (walk_rest fs) ∙ ap (λ es. h.0 ++ es) (sym q.rest) ∙ sym r.rest

-- ---- the way down

module _ {X : Type 0} where
  pub keys_found : (n : ℕ) (trail q : List Bool) (es : List (List Bool × X)) → KeysWithin n (under trail es) → is_some (find bits_cmp q es) ≡ true → length trail + length q ≤ n
  keys_found n trail q [] k s = cc
  keys_found n trail q (e ∷ es) k s = elim (cases_Bool (same q e.0)) [
    | inl h ↦ omega (arith, k.0, length-append trail e.0, ap length ((same-Decides q e.0).0 h))
    | inr h ↦ keys_found n trail q es k.1 (sym (ap (λ b. is_some (cond b (Some e.1) (find bits_cmp q es))) h) ∙ s)
  ]

  pub keys_listed : (n : ℕ) (trail : List Bool) (es : List (List Bool × X)) → ((q : List Bool) → is_some (find bits_cmp q es) ≡ true → length trail + length q ≤ n) → KeysWithin n (under trail es)
  keys_listed n trail [] f = tt
  keys_listed n trail (e ∷ es) f = (
    omega (arith, length-append trail e.0, f e.0 (ap (λ x. is_some (cond x (Some e.1) (find bits_cmp e.0 es))) (same-refl e.0))),
    keys_listed n trail es (λ q s. f q (later_found (same q e.0) e.1 (find bits_cmp q es) s)),
  )

  -- those of the keys of m that f tells lie below the first five bits of p, where g tells them
  pub record AreBelow (p : List Bool) (m c : BitMap X) (f g : List Bool → Bool) : Type 0 where
    pub long : 5 ≤ length p
    pub gets : (r : List Bool) → get m (take 5 p ++ r) ≡ get c r
    pub told : (r : List Bool) → f (take 5 p ++ r) ≡ g r
    pub other : (x : List Bool) → ((k : List Bool) → x ≡ take 5 p ++ k → ⊥) → f x ≡ false

  pub where_below : {p : List Bool} {m c : BitMap X} {f g : List Bool → Bool} → AreBelow p m c f g → where_key bits_cmp f (entries m) ≡ under (take 5 p) (where_key bits_cmp g (entries c))
  where_below {p} {m} {c} {f} {g} a =
      same_entries bits_cmp bits_total bits_same _ _ (is_sorted-where_key bits_cmp f (entries m) (entries_sorted m))
      (subst (λ es. T (is_sorted bits_cmp es)) (append-nil (under (take 5 p) (where_key bits_cmp g (entries c)))) (sorted_under (take 5 p) (where_key bits_cmp g (entries c)) [] (is_sorted-where_key bits_cmp g (entries c) (entries_sorted c)) tt (λ x. tt)))
      (λ x. found_where m f x ∙ by x (same (take 5 x) (take 5 p)) refl)
    where
      at : (r : List Bool) → cond (f (take 5 p ++ r)) (get m (take 5 p ++ r)) None ≡ find bits_cmp (take 5 p ++ r) (under (take 5 p) (where_key bits_cmp g (entries c)))
      at r =
          (λ i. cond (a.told r i) ((a.gets r ∙ get-entries c r) i) None) ∙ sym (find-where_key bits_cmp g r (bits_alike g r) (entries c))
          ∙ sym (find-under (take 5 p) r (where_key bits_cmp g (entries c)))

      by : (x : List Bool) (t : Bool) → same (take 5 x) (take 5 p) ≡ t → cond (f x) (get m x) None ≡ find bits_cmp x (under (take 5 p) (where_key bits_cmp g (entries c)))
      by x true e =
          let w : take 5 p ++ drop 5 x ≡ x = ap (λ s. s ++ drop 5 x) (sym ((same-Decides (take 5 x) (take 5 p)).0 e)) ∙ take-append-drop 5 x in
          subst (λ x. cond (f x) (get m x) None ≡ find bits_cmp x (under (take 5 p) (where_key bits_cmp g (entries c)))) w (at (drop 5 x))
      by x false e =
          let no : (k : List Bool) → x ≡ take 5 p ++ k → ⊥ = λ k q. not_same e (ap (take 5) q ∙ take_at (take 5 p) k 5 (front p a.long).0) in
          ap (λ t. cond t (get m x) None) (a.other x no) ∙ sym (find-apart (take 5 p) x no (where_key bits_cmp g (entries c)))

  begins_below : (p : List Bool) {m c : BitMap X} → 5 ≤ length p → ((r : List Bool) → get m (take 5 p ++ r) ≡ get c r) → AreBelow p m c (begins p) (begins (drop 5 p))
  begins_below p h s = record {
    long = h;
    gets = s;
    told = λ r. ap (λ q. begins q (take 5 p ++ r)) (sym (front p h).1) ∙ begins-under (take 5 p) (drop 5 p) r;
    other = λ x n. false_from_ne_true _ (λ e.
        let t = begins_take p x e in
        n (drop 5 p ++ drop (length p) x) (sym (take-append-drop (length p) x) ∙ ap (λ s. s ++ drop (length p) x) (t.1 ∙ sym (front p h).1) ∙ append_assoc (take 5 p) (drop 5 p) (drop (length p) x)));
  }

  pub entries_none : entries (empty {X = X} {R = bits_cmp}) ≡ []
  entries_none = ap entries (sym node_map-none) ∙ walk_none

  -- the node n at the trail, where what is left of the path is p
  pub record IsPlace (m n : Seen X) (trail : List Bool) : Type 0 where
    pub levels : length trail + 5 * n.levels ≤ 130
    pub fewer : n.levels ≤ m.levels
    pub keys : KeysWithin 128 (under trail (entries n.entries))

  pub at_root : {m : Seen X} {trail : List Bool} → m.levels ≤ 26 → KeysWithin 128 (entries m.entries) → trail ≡ [] → IsPlace m m trail
  at_root {m} {trail} l k e = record {
    levels = omega (arith, ap length e, l);
    fewer = omega arith;
    keys = subst (KeysWithin 128) (sym (under_none (entries m.entries)) ∙ ap (λ t. under t (entries m.entries)) (sym e)) k;
  }

  pub at_below : {m n c : Seen X} {trail way : List Bool} (p : List Bool) → IsPlace m n trail → 5 ≤ length p → IsChild p n c → way ≡ trail ++ take 5 p → IsPlace m c way
  at_below {m} {n} {c} {trail} {way} p a h s e =
      let l : length way ≡ length trail + 5 = omega (arith, ap length e, length-append trail (take 5 p), (front p h).0) in
      record {
        levels = omega (arith, l, a.levels, s.smaller);
        fewer = omega (arith, a.fewer, s.smaller);
        keys = keys_listed 128 way (entries c.entries) (λ q f.
            let g : is_some (find bits_cmp (take 5 p ++ q) (entries n.entries)) ≡ true = ap is_some (sym (get-entries n.entries (take 5 p ++ q)) ∙ s.gets q ∙ get-entries c.entries q) ∙ f in
            omega (arith, keys_found 128 trail (take 5 p ++ q) (entries n.entries) a.keys g, length-append (take 5 p) q, (front p h).0, l));
      }

  -- the node n at the trail has those of the keys of m that begin with q: the ones that begin with p
  pub record IsOnWay (m n : Seen X) (q p trail : List Bool) : Type 0 where
    pub place : IsPlace m n trail
    pub within : length trail + length p ≤ 128
    pub inside : under trail (where_key bits_cmp (begins p) (entries n.entries)) ≡ where_key bits_cmp (begins q) (entries m.entries)

  pub start_way : {m : Seen X} {q trail : List Bool} → m.levels ≤ 26 → KeysWithin 128 (entries m.entries) → length q ≤ 128 → trail ≡ [] → IsOnWay m m q q trail
  start_way {m} {q} {trail} l k h e = record {
    place = at_root l k e;
    within = omega (arith, h, ap length e);
    inside = ap (λ t. under t (where_key bits_cmp (begins q) (entries m.entries))) e ∙ under_none (where_key bits_cmp (begins q) (entries m.entries));
  }

  pub way_below : {m n c : Seen X} {q p r trail way : List Bool} → IsOnWay m n q p trail → 5 ≤ length p → IsChild p n c → way ≡ trail ++ take 5 p → r ≡ drop 5 p → IsOnWay m c q r way
  way_below {m} {n} {c} {q} {p} {r} {trail} {way} w h s e d = record {
    place = at_below p w.place h s e;
    within = omega (arith, ap length e, length-append trail (take 5 p), (front p h).0, ap length d, length-drop 5 p, w.within, h);
    inside = (λ j. under (e j) (where_key bits_cmp (begins (d j)) (entries c.entries))) ∙ sym (under-under trail (take 5 p) (where_key bits_cmp (begins (drop 5 p)) (entries c.entries)))
        ∙ ap (under trail) (sym (where_below (begins_below p h s.gets))) ∙ w.inside;
  }

  pub way_none : {m n : Seen X} {q p trail : List Bool} → IsOnWay m n q p trail → 5 ≤ length p → HasNoChild p n → where_key bits_cmp (begins q) (entries m.entries) ≡ []
  way_none {m} {n} {q} {p} {trail} w h s =
      sym w.inside ∙ ap (under trail) (where_below (begins_below p {c = empty} h (λ r. s.gets r ∙ sym (get_none r))) ∙ ap (λ es. under (take 5 p) (where_key bits_cmp (begins (drop 5 p)) es)) entries_none)

-- five bits of a path, as the number that they form
pub five_bits : {way : List Bool} (trail p : List Bool) {five : ℕ} → 5 ≤ length p → five ≡ child_of p → way ≡ trail ++ prefix_bits 5 five 5 → way ≡ trail ++ take 5 p
five_bits {way} trail p {five} h f e = e ∙ ap (λ s. trail ++ s) (child_bits five ∙ ap child_string f ∙ child_string-child_of p h)

-- ---- what comes after a string

from-under : (i : Bool) (b p q : List Bool) → is_from (b ++ p) i (b ++ q) ≡ is_from p i q
from-under i b p q = λ j. cond i (not (is_lt (bits_cmp-under b q p j))) (is_lt (bits_cmp-under b p q j))

past-under : (b q : List Bool) → is_past b (b ++ q) ≡ false
past-under [] q = and_right (is_lt (bits_cmp [] q)) false refl
past-under (y ∷ b) q = grind (arith, past-under b q)

-- a string that does not begin with b is after a string that does where it is past b
from_apart : (i : Bool) (b p x : List Bool) → begins b x ≡ false → is_from (b ++ p) i x ≡ is_past b x
from_apart i [] p x e = cc
from_apart i (y ∷ b) p x e = grind (arith, from_apart i b p)

past_less : (b s q : List Bool) → is_past b q ≡ true → bits_cmp (b ++ s) q ≡ Less
past_less [] s q e = let z = sym e ∙ past-under [] q in cc
past_less (y ∷ b) s q e = grind (arith, past_less b)

not_begun : (b x : List Bool) → ((k : List Bool) → x ≡ b ++ k → ⊥) → begins b x ≡ false
not_begun b x f = false_from_ne_true _ (λ e. f (drop (length b) x) (sym (take-append-drop (length b) x) ∙ ap (λ s. s ++ drop (length b) x) (begins_take b x e).1))

module _ {X : Type 0} where
  pub kept_true : (b : Bool) (o : Option X) → is_some (cond b o None) ≡ true → b ≡ true
  kept_true b o e = grind arith

  -- from p on come those below its first five bits that are from the rest of p on, and then what is past these five
  pub where_from : (p : List Bool) (i : Bool) (m c : BitMap X) → 5 ≤ length p → ((r : List Bool) → get m (take 5 p ++ r) ≡ get c r)
      → where_key bits_cmp (is_from p i) (entries m) ≡ under (take 5 p) (where_key bits_cmp (is_from (drop 5 p) i) (entries c)) ++ where_key bits_cmp (is_past (take 5 p)) (entries m)
  where_from p i m c h gets =
      same_entries bits_cmp bits_total bits_same _ _ (is_sorted-where_key bits_cmp (is_from p i) (entries m) (entries_sorted m))
      (sorted_under (take 5 p) (where_key bits_cmp (is_from (drop 5 p) i) (entries c)) (where_key bits_cmp (is_past (take 5 p)) (entries m))
      (is_sorted-where_key bits_cmp (is_from (drop 5 p) i) (entries c) (entries_sorted c)) (is_sorted-where_key bits_cmp (is_past (take 5 p)) (entries m) (entries_sorted m))
      (λ s. below_found (take 5 p ++ s) (where_key bits_cmp (is_past (take 5 p)) (entries m)) (λ q f. past_less (take 5 p) s q (kept_true (is_past (take 5 p) q) (find bits_cmp q (entries m)) (ap is_some (sym (find-where_key bits_cmp (is_past (take 5 p)) q (bits_alike (is_past (take 5 p)) q) (entries m))) ∙ f)))))
      (λ x. found_where m (is_from p i) x ∙ by x (same (take 5 x) (take 5 p)) refl
      ∙ sym (find-append_all x (under (take 5 p) (where_key bits_cmp (is_from (drop 5 p) i) (entries c))) (where_key bits_cmp (is_past (take 5 p)) (entries m))))
    where
      whole : (x : List Bool) → is_from p i x ≡ is_from (take 5 p ++ drop 5 p) i x
      whole x = ap (λ q. is_from q i x) (sym (front p h).1)

      none_after : (o : Option X) → o ≡ or_else o None
      none_after o = grind arith

      at : (r : List Bool) → cond (is_from p i (take 5 p ++ r)) (get m (take 5 p ++ r)) None
          ≡ or_else (find bits_cmp (take 5 p ++ r) (under (take 5 p) (where_key bits_cmp (is_from (drop 5 p) i) (entries c)))) (find bits_cmp (take 5 p ++ r) (where_key bits_cmp (is_past (take 5 p)) (entries m)))
      at r =
          (λ j. cond ((whole (take 5 p ++ r) ∙ from-under i (take 5 p) (drop 5 p) r) j) ((gets r ∙ get-entries c r) j) None)
          ∙ sym (find-where_key bits_cmp (is_from (drop 5 p) i) r (bits_alike (is_from (drop 5 p) i) r) (entries c))
          ∙ sym (find-under (take 5 p) r (where_key bits_cmp (is_from (drop 5 p) i) (entries c)))
          ∙ none_after _
          ∙ ap (or_else _) (sym (found_where m (is_past (take 5 p)) (take 5 p ++ r) ∙ ap (λ t. cond t (get m (take 5 p ++ r)) None) (past-under (take 5 p) r)))

      by : (x : List Bool) (t : Bool) → same (take 5 x) (take 5 p) ≡ t
          → cond (is_from p i x) (get m x) None ≡ or_else (find bits_cmp x (under (take 5 p) (where_key bits_cmp (is_from (drop 5 p) i) (entries c)))) (find bits_cmp x (where_key bits_cmp (is_past (take 5 p)) (entries m)))
      by x true e =
          let w : take 5 p ++ drop 5 x ≡ x = ap (λ s. s ++ drop 5 x) (sym ((same-Decides (take 5 x) (take 5 p)).0 e)) ∙ take-append-drop 5 x in
          subst (λ x. cond (is_from p i x) (get m x) None ≡ or_else (find bits_cmp x (under (take 5 p) (where_key bits_cmp (is_from (drop 5 p) i) (entries c)))) (find bits_cmp x (where_key bits_cmp (is_past (take 5 p)) (entries m)))) w (at (drop 5 x))
      by x false e =
          let no : (k : List Bool) → x ≡ take 5 p ++ k → ⊥ = λ k q. not_same e (ap (take 5) q ∙ take_at (take 5 p) k 5 (front p h).0) in
          ap (λ t. cond t (get m x) None) (whole x ∙ from_apart i (take 5 p) (drop 5 p) x (not_begun (take 5 p) x no))
          ∙ sym (found_where m (is_past (take 5 p)) x)
          ∙ ap (λ o. or_else o (find bits_cmp x (where_key bits_cmp (is_past (take 5 p)) (entries m)))) (sym (find-apart (take 5 p) x no (where_key bits_cmp (is_from (drop 5 p) i) (entries c))))

  -- from q on there is in m: what is from p on in the node n, and then what is left of the frames
  pub record IsOnwards (m n : Seen X) (q p trail : List Bool) (i : Bool) (fs : List (Left X)) : Type 0 where
    pub place : IsPlace m n trail
    pub within : length trail + length p ≤ 128
    pub fit : FitFrom 0 fs
    pub room : length fs + n.levels ≤ 26
    pub from : under trail (where_key bits_cmp (is_from p i) (entries n.entries)) ++ walk_rest fs ≡ where_key bits_cmp (is_from q i) (entries m.entries)

  pub start_onwards : {m : Seen X} {q trail : List Bool} (i : Bool) {fs : List (Left X)} → m.levels ≤ 26 → KeysWithin 128 (entries m.entries) → length q ≤ 128 → trail ≡ [] → fs ≡ [] → IsOnwards m m q q trail i fs
  start_onwards {m} {q} {trail} i {fs} l k h e z = record {
    place = at_root l k e;
    within = omega (arith, h, ap length e);
    fit = subst (λ gs. FitFrom 0 gs) (sym z) tt;
    room = omega (arith, ap length z, l);
    from = (λ j. under (e j) (where_key bits_cmp (is_from q i) (entries m.entries)) ++ walk_rest (z j)) ∙ append-nil _ ∙ under_none (where_key bits_cmp (is_from q i) (entries m.entries));
  }

  -- the frame of what is past the five bits goes on the stack
  pub onwards_below : {m n c : Seen X} {q p r trail way : List Bool} {i : Bool} {fs gs : List (Left X)} {f : Left X} → IsOnwards m n q p trail i fs → 5 ≤ length p → IsChild p n c → way ≡ trail ++ take 5 p → r ≡ drop 5 p
      → f.0 ≡ under trail (where_key bits_cmp (is_past (take 5 p)) (entries n.entries)) → IsTop gs fs f → IsOnwards m c q r way i gs
  onwards_below {m} {n} {c} {q} {p} {r} {trail} {way} {i} {fs} {gs} {f} w h s e d v t = record {
    place = at_below p w.place h s e;
    within = omega (arith, ap length e, length-append trail (take 5 p), (front p h).0, ap length d, length-drop 5 p, w.within, h);
    fit = t.whole;
    room = omega (arith, t.count, w.room, s.smaller);
    from = (λ j. under (e j) (where_key bits_cmp (is_from (d j) i) (entries c.entries)) ++ (t.rest ∙ ap (λ es. es ++ walk_rest fs) v) j)
        ∙ sym (append_assoc (under (trail ++ take 5 p) (where_key bits_cmp (is_from (drop 5 p) i) (entries c.entries))) (under trail (where_key bits_cmp (is_past (take 5 p)) (entries n.entries))) (walk_rest fs))
        ∙ ap (λ es. es ++ under trail (where_key bits_cmp (is_past (take 5 p)) (entries n.entries)) ++ walk_rest fs) (sym (under-under trail (take 5 p) (where_key bits_cmp (is_from (drop 5 p) i) (entries c.entries))))
        ∙ ap (λ es. es ++ walk_rest fs) (sym (under-append trail (under (take 5 p) (where_key bits_cmp (is_from (drop 5 p) i) (entries c.entries))) (where_key bits_cmp (is_past (take 5 p)) (entries n.entries))))
        ∙ ap (λ es. under trail es ++ walk_rest fs) (sym (where_from p i n.entries c.entries h s.gets)) ∙ w.from;
  }

  pub onwards_none : {m n : Seen X} {q p trail : List Bool} {i : Bool} {fs gs : List (Left X)} {f : Left X} → IsOnwards m n q p trail i fs → 5 ≤ length p → HasNoChild p n
      → f.0 ≡ under trail (where_key bits_cmp (is_past (take 5 p)) (entries n.entries)) → IsTop gs fs f → walk_rest gs ≡ where_key bits_cmp (is_from q i) (entries m.entries)
  onwards_none {m} {n} {q} {p} {trail} {i} {fs} {gs} {f} w h s v t =
      let z = where_from p i n.entries empty h (λ r. s.gets r ∙ sym (get_none r)) ∙ ap (λ es. under (take 5 p) (where_key bits_cmp (is_from (drop 5 p) i) es) ++ where_key bits_cmp (is_past (take 5 p)) (entries n.entries)) entries_none in
      t.rest ∙ ap (λ es. es ++ walk_rest fs) (v ∙ ap (under trail) (sym z)) ∙ w.from

  pub onwards_end : {m n : Seen X} {q p trail : List Bool} {i : Bool} {fs gs : List (Left X)} {f : Left X} → IsOnwards m n q p trail i fs
      → f.0 ≡ under trail (where_key bits_cmp (is_from p i) (entries n.entries)) → IsTop gs fs f → walk_rest gs ≡ where_key bits_cmp (is_from q i) (entries m.entries)
  onwards_end {fs = fs} w v t = t.rest ∙ ap (λ es. es ++ walk_rest fs) v ∙ w.from
