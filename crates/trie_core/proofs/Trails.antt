-- A stack of frames along a way.
use Rattle.std.proofs.Common.{Option, None, Some, MatchOption, ◌≡◌, ℕ, suc, ◌+◌, ◌-◌, ◌*◌, ◌<◌, ◌≤◌, Bool, List, [], ◌∷◌, ◌++◌, length, take, drop, refl, sym, ap, subst, ◌∙◌, take_all, append-nil, take_at, drop_at, take-take, length-append, length-take, arith}
use Rattle.std.specs.FinMap.{entries}
use Rattle.std.specs.FinMap.Entries.{where_key}
use Rattle.trie_core.specs.Bits.{is_from}
use Rattle.ipnet_blocks.specs.BitStrings.{bits_cmp}
use Rattle.trie_core.specs.InnerWalks.{is_past, KeysWithin, Left, walk_rest, walk_weight, FitFrom}
use Rattle.trie_core.proofs.Strings.{front}
use Rattle.trie_core.specs.Nodes.{Seen}
use Rattle.trie_core.specs.InnerNodes.{under}
use Rattle.trie_core.specs.InnerSearch.{IsChild, HasNoChild}
use Rattle.trie_core.specs.InnerSteps.{LastGives}
use Rattle.trie_core.specs.declared.frame.Next.{Next}
use Rattle.trie_core.specs.InnerTrails.{on_way, along, bits_of, FitsDepth, IsWalk}
use Rattle.trie_core.proofs.Frames.{keys_split, keys_where, under_none}
use Rattle.trie_core.proofs.Walks.{IsTop, popped, pushed, entry_step, below_step, IsOnwards, start_onwards, onwards_below, onwards_none, onwards_end}

module _ {X : Type 0} where
  pub length_along : (way : List Bool) (fs : List (Left X)) → length (along way fs) ≡ length fs
  length_along way [] = refl
  length_along way (f ∷ fs) = ap suc (length_along way fs)

  pub one_more : {gs : List (Left X)} (fs : List (Left X)) (f : Left X) → gs ≡ fs ++ f ∷ [] → length gs ≡ length fs + 1
  one_more fs f e = ap length e ∙ length-append fs (f ∷ [])

  -- what a stack is once its last frame is taken off
  pub taken_off : {F : Type 0} (left : F → Left X) (r : Option F) {gs hs : List (Left X)} (fs : List (Left X)) (f : Left X) → gs ≡ fs ++ f ∷ [] → MatchOption r ((gs ≡ []) × (hs ≡ [])) (λ g. gs ≡ hs ++ left g ∷ []) → hs ≡ fs
  taken_off left None fs f e n = absurd (omega (arith, one_more fs f e, ap length n.0))
  taken_off left (Some g) {gs} {hs} fs f e d =
      let n : ℕ = length gs - 1 in
      sym (take_at hs (left g ∷ []) n (omega (arith, one_more hs (left g) d))) ∙ ap (take n) (sym d ∙ e) ∙ take_at fs (f ∷ []) n (omega (arith, one_more fs f e))

  -- and the frame that was taken off
  pub taken_frame : {gs : List (Left X)} (fs hs : List (Left X)) (f g : Left X) → gs ≡ fs ++ f ∷ [] → gs ≡ hs ++ g ∷ [] → g.3 ≡ f.3
  taken_frame {gs} fs hs f g e d =
      let n : ℕ = length gs - 1 in
      let a : drop n gs ≡ g ∷ [] = ap (drop n) d ∙ drop_at hs (g ∷ []) n (omega (arith, one_more hs g d)) in
      let b : drop n gs ≡ f ∷ [] = ap (drop n) e ∙ drop_at fs (f ∷ []) n (omega (arith, one_more fs f e)) in
      omega (arith, ap bits_of (sym a ∙ b))

  pub given : {G F S : Type 0} {value : G → X} {below : F → Left X} {left : S → Left X} {way : List Bool} {fs gs : List S} {m n : Next G F} → LastGives value below left way fs m gs → m ≡ n → LastGives value below left way fs n gs
  given {value = value} {below = below} {left = left} {way = way} {fs = fs} {gs = gs} l e = subst (λ n. LastGives value below left way fs n gs) e l

  pub bits-append : (fs : List (Left X)) (f : Left X) → bits_of (fs ++ f ∷ []) ≡ bits_of fs + f.3
  bits-append [] f = omega arith
  bits-append (g ∷ fs) f = omega (arith, bits-append fs f)

  -- below the last frame the way is some bits shorter
  pub along_top : (k : ℕ) (way : List Bool) (fs : List (Left X)) (f : Left X) → f.3 ≡ k → along way (fs ++ f ∷ []) ≡ along (take (length way - k) way) fs ++ on_way way f ∷ []
  along_top k way [] f z = ap (λ w. on_way w f ∷ []) (take_all (length way - 0) way (omega arith))
  along_top k way (g ∷ fs) f z = λ i. on_way (e i) g ∷ along_top k way fs f z i
    where
      n : ℕ
      n = length way - k

      j : ℕ
      j = n - bits_of fs

      a : length way - bits_of (fs ++ f ∷ []) ≡ j
      a = omega (arith, bits-append fs f, z)

      b : length (take n way) - bits_of fs ≡ j
      b = omega (arith, length-take n way)

      e : take (length way - bits_of (fs ++ f ∷ [])) way ≡ take (length (take n way) - bits_of fs) (take n way)
      e = ap (λ k. take k way) a ∙ sym (take-take j n way (omega arith)) ∙ ap (λ k. take k (take n way)) (sym b)

  reach_open : (n k : ℕ) (fs : List (Left X)) (f : Left X) → f.3 ≡ k → FitsDepth n (fs ++ f ∷ []) → FitsDepth (n - k) fs × (n + 5 * f.1 ≤ 130)
  reach_open n k [] f z r = (tt, omega (arith, r.0))
  reach_open n k (g ∷ fs) f z r = let s = reach_open n k fs f z r.1 in ((omega (arith, r.0, bits-append fs f, z), s.0), s.1)

  reach_close : (n k : ℕ) (fs : List (Left X)) (f : Left X) → f.3 ≡ k → FitsDepth (n - k) fs → n + 5 * f.1 ≤ 130 → FitsDepth n (fs ++ f ∷ [])
  reach_close n k [] f z r l = (omega (arith, l), tt)
  reach_close n k (g ∷ fs) f z r l = (omega (arith, r.0, bits-append fs f, z), reach_close n k fs f z r.1 l)

  -- gs is fs with the frame f on top, where the way leads to f, and is k bits longer than that of fs
  pub record IsLast (gs fs : List (Left X)) (f : Left X) (k : ℕ) (way : List Bool) : Type 0 where
    pub top : IsTop (along way gs) (along (take (length way - k) way) fs) (on_way way f)
    pub all : FitsDepth (length way) gs
    pub below : FitsDepth (length way - k) fs
    pub reach : length way + 5 * f.1 ≤ 130
    pub room : length fs + f.1 ≤ 26

  pub put_frame : {gs fs : List (Left X)} {f : Left X} (k : ℕ) (way : List Bool) → f.3 ≡ k → FitFrom 0 (along (take (length way - k) way) fs) → FitsDepth (length way - k) fs → 0 < f.1 → length fs + f.1 ≤ 26 → length way + 5 * f.1 ≤ 130 → gs ≡ fs ++ f ∷ [] → IsLast gs fs f k way
  put_frame {gs} {fs} {f} k way z a r p l h e = record {
    top = pushed a p (omega (arith, l, length_along (take (length way - k) way) fs)) (ap (along way) e ∙ along_top k way fs f z);
    all = subst (FitsDepth (length way)) (sym e) (reach_close (length way) k fs f z r h);
    below = r;
    reach = h;
    room = l;
  }

  pub last_frame : {gs fs : List (Left X)} {f : Left X} {way : List Bool} → IsWalk gs way → gs ≡ fs ++ f ∷ [] → IsLast gs fs f f.3 way
  last_frame {gs} {fs} {f} {way} w e =
      let t = popped w.fit (ap (along way) e ∙ along_top f.3 way fs f refl) in
      let r = reach_open (length way) f.3 fs f refl (subst (FitsDepth (length way)) e w.reach) in
      record {
        top = t;
        all = w.reach;
        below = r.0;
        reach = r.1;
        room = omega (arith, t.levels, length_along (take (length way - f.3) way) fs);
      }

  pub last_keys : {gs fs : List (Left X)} {f : Left X} {k : ℕ} {way : List Bool} → IsWalk gs way → IsLast gs fs f k way → KeysWithin 128 (under way f.0)
  last_keys {gs} {fs} {f} {k} {way} w l = (keys_split 128 (under way f.0) (walk_rest (along (take (length way - k) way) fs)) (subst (KeysWithin 128) l.top.rest w.keys)).0

  -- the last frame gave an entry
  pub entry_left : {ds gs : List (Left X)} {way : List Bool} (fs : List (Left X)) (f g : Left X) (e : List Bool × X) → IsWalk ds way → ds ≡ fs ++ f ∷ [] → 0 < g.1 → g.3 ≡ f.3 → g.1 ≤ f.1 → gs ≡ fs ++ g ∷ [] → under way f.0 ≡ e ∷ under way g.0 → IsWalk gs way × (walk_rest (along way ds) ≡ e ∷ walk_rest (along way gs))
  entry_left {way = way} fs f g e w a l z m b s =
      let p = last_frame w a in
      let q = put_frame f.3 way z p.top.below p.below l (omega (arith, p.room, m)) (omega (arith, p.reach, m)) b in
      let r = entry_step e p.top s q.top in (
        record { fit = q.top.whole; reach = q.all; keys = (subst (KeysWithin 128) r w.keys).1 },
        r,
      )

  -- the frame of a node below is on top
  put_below : (gs : List (Left X)) {hs : List (Left X)} (h : Left X) (way below : List Bool) → FitFrom 0 (along way gs) → FitsDepth (length way) gs → 0 < h.1 → length gs + h.1 ≤ 26 → length below + 5 * h.1 ≤ 130 → take (length below - h.3) below ≡ way → length below ≡ length way + h.3 → hs ≡ gs ++ h ∷ []
      → IsTop (along below hs) (along way gs) (on_way below h) × FitsDepth (length below) hs
  put_below gs {hs} h way below a r p l m t n e =
      let d : length way ≡ length below - h.3 = omega (arith, n) in (
        pushed a p (omega (arith, l, length_along way gs)) (ap (along below) e ∙ along_top h.3 below gs h refl ∙ ap (λ w. along w gs ++ on_way below h ∷ []) t),
        subst (FitsDepth (length below)) (sym e) (reach_close (length below) h.3 gs h refl (subst (λ k. FitsDepth k gs) d r) m),
      )

  -- the last frame, which is f and becomes g, is followed by that of the node below, which is h
  pub below_left : {ds gs hs : List (Left X)} {way below : List Bool} (fs : List (Left X)) (f g h : Left X) → IsWalk ds way → ds ≡ fs ++ f ∷ [] → 0 < g.1 → g.3 ≡ f.3 → g.1 ≤ f.1 → gs ≡ fs ++ g ∷ [] → 0 < h.1 → 5 * h.1 + h.3 ≤ 5 * f.1 → h.1 < f.1
      → take (length below - h.3) below ≡ way → length below ≡ length way + h.3 → hs ≡ gs ++ h ∷ []
      → under way f.0 ≡ under below h.0 ++ under way g.0 → h.2 + g.2 + 1 < f.2 → IsWalk hs below × (walk_rest (along way ds) ≡ walk_rest (along below hs)) × (walk_weight (along below hs) < walk_weight (along way ds))
  below_left {gs = gs} {way = way} {below = below} fs f g h w a l z m b lh far mh t n c s v =
      let p = last_frame w a in
      let q = put_frame f.3 way z p.top.below p.below l (omega (arith, p.room, m)) (omega (arith, p.reach, m)) b in
      let u = put_below gs h way below q.top.whole q.all lh (omega (arith, one_more fs g b, p.room, mh)) (omega (arith, p.reach, far, n)) t n c in
      let r = below_step p.top s q.top u.0 in (
        record { fit = u.0.whole; reach = u.1; keys = subst (KeysWithin 128) r w.keys },
        r,
        omega (arith, p.top.weight, q.top.weight, u.0.weight, v),
      )

  -- the last frame held nothing
  pub nothing_left : {ds fs : List (Left X)} {f : Left X} {way up : List Bool} → IsWalk ds way → IsLast ds fs f f.3 way → up ≡ take (length way - f.3) way → f.0 ≡ [] → IsWalk fs up × (walk_rest (along way ds) ≡ walk_rest (along up fs)) × (walk_weight (along way ds) ≡ f.2 + 1 + walk_weight (along up fs))
  nothing_left {ds} {fs} {f} {way} {up} w p u z =
      let r : walk_rest (along way ds) ≡ walk_rest (along up fs) = p.top.rest ∙ (λ i. under way (z i) ++ walk_rest (along (sym u i) fs)) in
      let n : length way - f.3 ≡ length up = omega (arith, ap length u, length-take (length way - f.3) way) in (
        record { fit = subst (λ v. FitFrom 0 (along v fs)) (sym u) p.top.below; reach = subst (λ k. FitsDepth k fs) n p.below; keys = subst (KeysWithin 128) r w.keys },
        r,
        p.top.weight ∙ ap (λ v. f.2 + 1 + walk_weight (along v fs)) (sym u),
      )

  -- a walk without frames
  pub no_frames : {fs : List (Left X)} (way : List Bool) → fs ≡ [] → IsWalk fs way × (walk_rest (along way fs) ≡ [])
  no_frames way e = subst (λ fs. IsWalk fs way × (walk_rest (along way fs) ≡ [])) (sym e) (record { fit = tt; reach = tt; keys = tt }, refl)

  -- a walk of one frame
  pub one_frame : {gs fs : List (Left X)} (f : Left X) (way : List Bool) → fs ≡ [] → gs ≡ fs ++ f ∷ [] → 0 < f.1 → f.1 ≤ 26 → length way + 5 * f.1 ≤ 130 → KeysWithin 128 (under way f.0) → IsWalk gs way × (walk_rest (along way gs) ≡ under way f.0)
  one_frame {gs} {fs} f way z e p l h k =
      let t = put_frame {fs = []} {f = f} f.3 way refl tt tt p (omega (arith, l)) h (e ∙ ap (λ xs. xs ++ f ∷ []) z) in
      let r = t.top.rest ∙ append-nil (under way f.0) in (
        record { fit = t.top.whole; reach = t.all; keys = subst (KeysWithin 128) (sym r) k },
        r,
      )

  -- ---- the way to where a walk goes on

  -- the frames are those of the nodes above the one at the trail
  pub record IsGoingOn (m n : Seen X) (q p trail : List Bool) (i : Bool) (fs : List (Left X)) : Type 0 where
    pub way : IsOnwards m n q p trail i (along (take (length trail - 5) trail) fs)
    pub reach : FitsDepth (length trail - 5) fs

  pub room_left : {m n : Seen X} {q p trail : List Bool} {i : Bool} {fs : List (Left X)} → IsGoingOn m n q p trail i fs → length fs + n.levels ≤ 26
  room_left {trail = trail} {fs = fs} w = omega (arith, w.way.room, length_along (take (length trail - 5) trail) fs)

  pub start_going : {m : Seen X} {q trail : List Bool} (i : Bool) {fs : List (Left X)} → m.levels ≤ 26 → KeysWithin 128 (entries m.entries) → length q ≤ 128 → trail ≡ [] → fs ≡ [] → IsGoingOn m m q q trail i fs
  start_going {trail = trail} i l k h e z = record {
    way = start_onwards i l k h e (ap (along (take (length trail - 5) trail)) z);
    reach = subst (FitsDepth (length trail - 5)) (sym z) tt;
  }

  pub put_going : {m n : Seen X} {q p trail : List Bool} {i : Bool} {fs gs : List (Left X)} {f : Left X} → IsGoingOn m n q p trail i fs → f.3 ≡ 5 → 0 < f.1 → f.1 ≤ n.levels → gs ≡ fs ++ f ∷ [] → IsLast gs fs f 5 trail
  put_going {trail = trail} {fs = fs} w b p l e = put_frame 5 trail b w.way.fit w.reach p (omega (arith, w.way.room, l, length_along (take (length trail - 5) trail) fs)) (omega (arith, w.way.place.levels, l)) e

  pub going_below : {m n c : Seen X} {q p r trail below : List Bool} {i : Bool} {fs gs : List (Left X)} {f : Left X} → IsGoingOn m n q p trail i fs → 5 ≤ length p → IsChild p n c → below ≡ trail ++ take 5 p → r ≡ drop 5 p → f.0 ≡ where_key bits_cmp (is_past (take 5 p)) (entries n.entries) → IsLast gs fs f 5 trail → IsGoingOn m c q r below i gs
  going_below {m} {n} {c} {q} {p} {r} {trail} {below} {i} {fs} {gs} w h s e d v t =
      let k : length below - 5 ≡ length trail = omega (arith, ap length e, length-append trail (take 5 p), (front p h).0) in
      let u : take (length below - 5) below ≡ trail = (λ j. take (k j) (e j)) ∙ take_at trail (take 5 p) (length trail) refl in
      record {
        way = subst (λ x. IsOnwards m c q r below i (along x gs)) (sym u) (onwards_below w.way h s e d (ap (under trail) v) t.top);
        reach = subst (λ x. FitsDepth x gs) (sym k) t.all;
      }

  keys_from : (m : Seen X) (q : List Bool) (i : Bool) → KeysWithin 128 (entries m.entries) → KeysWithin 128 (where_key bits_cmp (is_from q i) (entries m.entries))
  keys_from m q i k = subst (KeysWithin 128) (under_none _) (keys_where 128 [] (is_from q i) (entries m.entries) (subst (KeysWithin 128) (sym (under_none _)) k))

  gone : (m : Seen X) (q : List Bool) (i : Bool) {fs gs : List (Left X)} {f : Left X} {trail : List Bool} → KeysWithin 128 (entries m.entries) → IsLast gs fs f 5 trail → walk_rest (along trail gs) ≡ where_key bits_cmp (is_from q i) (entries m.entries) → IsWalk gs trail × (walk_rest (along trail gs) ≡ where_key bits_cmp (is_from q i) (entries m.entries))
  gone m q i k t r = (record { fit = t.top.whole; reach = t.all; keys = subst (KeysWithin 128) (sym r) (keys_from m q i k) }, r)

  pub going_none : {m n : Seen X} {q p trail : List Bool} {i : Bool} {fs gs : List (Left X)} {f : Left X} → KeysWithin 128 (entries m.entries) → IsGoingOn m n q p trail i fs → 5 ≤ length p → HasNoChild p n → f.0 ≡ where_key bits_cmp (is_past (take 5 p)) (entries n.entries) → IsLast gs fs f 5 trail
      → IsWalk gs trail × (walk_rest (along trail gs) ≡ where_key bits_cmp (is_from q i) (entries m.entries))
  going_none {m} {q = q} {trail = trail} {i = i} k w h s v t = gone m q i k t (onwards_none w.way h s (ap (under trail) v) t.top)

  pub going_end : {m n : Seen X} {q p trail : List Bool} {i : Bool} {fs gs : List (Left X)} {f : Left X} → KeysWithin 128 (entries m.entries) → IsGoingOn m n q p trail i fs → f.0 ≡ where_key bits_cmp (is_from p i) (entries n.entries) → IsLast gs fs f 5 trail
      → IsWalk gs trail × (walk_rest (along trail gs) ≡ where_key bits_cmp (is_from q i) (entries m.entries))
  going_end {m} {q = q} {trail = trail} {i = i} k w v t = gone m q i k t (onwards_end w.way (ap (under trail) v) t.top)
