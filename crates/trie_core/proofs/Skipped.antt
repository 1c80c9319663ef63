-- What a node is seen as, by its skipped levels and its branch.
use Rattle.std.proofs.Common.{◌≡◌, ℕ, zero, suc, ◌+◌, ◌-◌, ◌*◌, ◌/◌, ◌%◌, ◌^◌, ◌<◌, ◌≤◌, Bool, true, false, List, [], ◌∷◌, ◌++◌, length, take, drop, refl, sym, ap, subst, ◌∙◌, inl, inr, append_assoc, length-append, Option, Some, None, IsTrue, IsSome, take-append-drop, length-take-le, length-take, length-drop, take_at, drop_at, take-take, drop-drop, take-add, pow_mono, pow_pos, arith}
use Rattle.std.specs.FinMap.{get, insert, empty}
use Rattle.std.proofs.lemmas.Nat.Bits.{bit_at-zero}
use Rattle.std.proofs.lemmas.Bool.{cases_lt}
use Rattle.ipnet_blocks.proofs.Strings.{length-digits}
use Rattle.trie_core.specs.Nodes.{Seen}
use Rattle.trie_core.specs.InnerSearch.{IsChild, NoneBelow}
use Rattle.ipnet_blocks.specs.Blocks.{digits}
use Rattle.trie_core.specs.InnerNodes.{HasSlots, node_height}
use Rattle.trie_core.specs.InnerInsertedBelow.{IsInsertedBelow, bare}
use Rattle.trie_core.specs.InnerPlaces.{child_of, place_of}
use Rattle.trie_core.specs.InnerChains.{over, chain, skipped, Starts}
use Rattle.trie_core.proofs.Aligned.{digits-mod}
use Rattle.trie_core.proofs.Numbers.{ones_bit, double, number_bound, take-digits, drop-digits, number-long}
use Rattle.trie_core.proofs.Seen.{viewed, seen, new_map, new_set}
use Rattle.trie_core.proofs.Maps.{get_none}
use Rattle.trie_core.proofs.Changes.{value_put_map, value_count}
use Rattle.trie_core.proofs.Ways.{short_off}
use Rattle.trie_core.proofs.InsertedBelow.{exchanged_new}
use Rattle.trie_core.proofs.Chains.{alone_counted, alone_places, over_slots, over_places, chain_step, chain_exchanged, chain_along, chain_get, chain_none, chain_split}
use Rattle.trie_core.proofs.Searches.{IsAt, IsBest, none_deeper}

pub not_true : {A : Type 0} (b : Bool) → (A → IsTrue b) → b ≡ false → A → ⊥
not_true b f e a = let t = f a in grind arith

-- the way of the skipped levels, and then x
starts_on : (k skip : ℕ) (p x : List Bool) → Starts k skip p → Starts k skip (take (5 * k) p ++ x) × (x ≡ drop (5 * k) (take (5 * k) p ++ x))
starts_on k skip p x s =
    let l : length (take (5 * k) p) ≡ 5 * k = length-take-le (5 * k) p s.0 in
    ((omega (arith, l, length-append (take (5 * k) p) x), take_at (take (5 * k) p) x (5 * k) l ∙ s.1), sym (drop_at (take (5 * k) p) x (5 * k) l))

module _ {X : Type 0} where
  -- what it has at a string that begins with the skipped levels
  pub skipped_get : (k skip : ℕ) (q r : List Bool) (m w : Seen X) → chain k (skipped k skip) m ≡ w → Starts k skip q → r ≡ drop (5 * k) q → get w.entries q ≡ get m.entries r
  skipped_get k skip q r m w v s e = ap (λ n. get n.entries q) (sym v ∙ chain_along k q (skipped k skip) m s.0 s.1) ∙ chain_get k q r m s.0 e

  -- and at any other
  pub skipped_none : (k skip : ℕ) (q : List Bool) (m w : Seen X) → chain k (skipped k skip) m ≡ w → (Starts k skip q → ⊥) → get w.entries q ≡ None
  skipped_none k skip q m w v f = ap (λ n. get n.entries q) (sym v) ∙ chain_none k q (skipped k skip) m (length-digits (5 * k) skip) f

  pub child_rest : {n c : Seen X} (p r : List Bool) → IsChild p n c → r ≡ drop 5 p → get c.entries r ≡ get n.entries p
  child_rest {n} {c} p r e f = ap (get c.entries) f ∙ sym (ap (get n.entries) (sym (take-append-drop 5 p)) ∙ e.gets (drop 5 p))

  -- ---- a search goes on below the skipped levels

  left_of : {m n : Seen X} {q p : List Bool} (d : ℕ) → IsAt m q d n p → length q ≡ d + length p
  left_of {q = q} d a = omega (arith, ap length a.rest, length-drop d q, a.within)

  pub at_branch : {m w b : Seen X} {q p r : List Bool} (d k skip : ℕ) → IsAt m q d w p → chain k (skipped k skip) b ≡ w → Starts k skip p → r ≡ drop (5 * k) p → IsAt m q (d + 5 * k) b r
  at_branch {m} {w} {b} {q} {p} {r} d k skip a v s e = record {
    within = omega (arith, left_of d a, s.0);
    rest = e ∙ ap (drop (5 * k)) a.rest ∙ drop-drop (5 * k) d q;
    gets = λ x.
        let t = starts_on k skip p x s in
        sym (skipped_get k skip (take (5 * k) p ++ x) x b w v t.0 t.1) ∙ a.gets (take (5 * k) p ++ x)
        ∙ ap (λ o. get m.entries (take d q ++ (take (5 * k) o ++ x))) a.rest
        ∙ ap (get m.entries) (sym (append_assoc (take d q) (take (5 * k) (drop d q)) x) ∙ ap (λ o. o ++ x) (sym (take-add d (5 * k) q)));
  }

  -- on the skipped levels there is no key
  pub none_on : (k skip : ℕ) (p : List Bool) (b w : Seen X) → chain k (skipped k skip) b ≡ w → NoneBelow w.entries p (5 * k)
  none_on k skip p b w v j h l = skipped_none k skip (take j p) b w v (λ s. omega (arith, s.0, length-take j p, h))

  -- and none at all off their way
  pub none_off : (k skip : ℕ) (p : List Bool) (b w : Seen X) (high : ℕ) → chain k (skipped k skip) b ≡ w → (Starts k skip p → ⊥) → NoneBelow w.entries p high
  none_off k skip p b w high v f j h l = skipped_none k skip (take j p) b w v (λ s.
      let i : 5 * k ≤ j = omega (arith, s.0, length-take j p) in
      f (omega (arith, i, l), sym (take-take (5 * k) j p i) ∙ s.1))

  from_depth : {m n : Seen X} {q p : List Bool} (d k : ℕ) → IsAt m q d n p → d ≤ k → get m.entries (take k q) ≡ get n.entries (take (k - d) p)
  from_depth {m} {n} {q} {p} d k a h =
      let z : d + (k - d) ≡ k = omega arith in
      ap (λ j. get m.entries (take j q)) (sym z) ∙ ap (get m.entries) (take-add d (k - d) q ∙ ap (λ w. take d q ++ take (k - d) w) (sym a.rest)) ∙ sym (a.gets (take (k - d) p))

  pub best_past : {S : Type 0} (v : S → X) {m n : Seen X} {q p : List Bool} (d high : ℕ) (best : Option (ℕ × S)) → IsAt m q d n p → IsBest v m.entries q d best → NoneBelow n.entries p high → IsBest v m.entries q (d + high) best
  best_past v d high None a f g = none_deeper d high a f g
  best_past v {m} {n} {q} {p} d high (Some b) a f g = record {
    below = omega (arith, f.below);
    within = f.within;
    found = f.found;
    longest = λ k h j i. elim (cases_lt k d) [
      | inl e ↦ f.longest k h e i
      | inr e ↦ from_depth d k a e ∙ g (k - d) (omega (arith, j, e)) (omega (arith, i, e, left_of d a))
    ];
  }

  -- ---- a node is split

  pub one_slots : {b : ℕ} {vs : List X} {cs : List (Seen X)} (n : ℕ) (m : Seen X) → n < 32 → vs ≡ [] → b ≡ 2 ^ n → cs ≡ m ∷ [] → HasSlots 0 vs b cs
  one_slots n m l e f h = rw (e, f, h) (over_slots n m l)

  pub one_view : {b : ℕ} {vs : List X} {cs : List (Seen X)} (n : ℕ) (m : Seen X) → vs ≡ [] → b ≡ 2 ^ n → cs ≡ m ∷ [] → viewed 0 vs b cs ≡ over n m
  one_view n m e f h = λ i. viewed 0 (e i) (f i) (h i)

  pub split_same : (at levels below skip : ℕ) (m : Seen X) → levels ≡ at + suc below → chain at (skipped at (skip / 2 ^ (5 * suc below))) (over (skip / 2 ^ (5 * below) % 32) (chain below (skipped below (skip % 2 ^ (5 * below))) m)) ≡ chain levels (skipped levels skip) m
  split_same at levels below skip m e =
      let s = skipped levels skip in
      let n = skip / 2 ^ (5 * below) % 32 in
      let a : 5 * at ≤ 5 * levels = omega (arith, e) in
      let b : 5 * levels - 5 * at ≡ 5 * suc below = omega (arith, e) in
      let c : 5 * suc below - 5 ≡ 5 * below = omega arith in
      let d : 5 * levels - (5 * at + 5) ≡ 5 * below = omega (arith, e) in
      let high : take (5 * at) s ≡ skipped at (skip / 2 ^ (5 * suc below)) = take-digits (5 * at) (5 * levels) skip a ∙ ap (λ i. digits (5 * at) (skip / 2 ^ i)) b in
      let number : n ≡ child_of (drop (5 * at) s) =
      sym (ap child_of (drop-digits (5 * at) (5 * levels) skip a ∙ ap (λ i. digits i skip) b) ∙ number-long 5 (5 * suc below) skip (omega arith) ∙ ap (λ i. skip / 2 ^ i % 2 ^ 5) c)
      in
      let low : skipped below (skip % 2 ^ (5 * below)) ≡ drop (5 * at + 5) s = digits-mod (5 * below) skip ∙ sym (drop-digits (5 * at + 5) (5 * levels) skip (omega (arith, e)) ∙ ap (λ i. digits i skip) d) in
      chain_along at s (skipped at (skip / 2 ^ (5 * suc below))) _ (omega (arith, a, length-digits (5 * levels) skip)) high
      ∙ (λ i. chain at s (over (number i) (chain below (low i) m)))
      ∙ sym (ap (λ k. chain k s m) e ∙ chain_split at below s m)

  -- ---- a value is stored

  -- below the skipped levels
  pub skipped_exchanged : {h out : Option X} {may_grow : Bool} {room made : ℕ} {q r : List Bool} {m : Seen X} (k skip : ℕ) (e d : Seen X) → chain k (skipped k skip) e ≡ m → Starts k skip q → r ≡ drop (5 * k) q → IsSome h → IsInsertedBelow r h may_grow room e made out d → IsInsertedBelow q h may_grow room m made out (chain k (skipped k skip) d)
  skipped_exchanged {h} {out} {may_grow} {room} {made} {q} {r} {m} k skip e d v s f g x =
      let a = chain_along k q (skipped k skip) e s.0 s.1 in
      let b = chain_along k q (skipped k skip) d s.0 s.1 in
      subst (λ n. IsInsertedBelow q h may_grow room n made out (chain k (skipped k skip) d)) (sym a ∙ v)
      (subst (λ n. IsInsertedBelow q h may_grow room (chain k q e) made out n) (sym b) (chain_exchanged k q r e d s.0 f g x))

  -- in new nodes on the way, of which all but the last are skipped
  pub no_slots : HasSlots {X = X} {Y = Seen X} 0 [] 0 []
  no_slots = record { values_counted = ones_bit 0 (omega arith); values_below = omega arith; children_counted = ones_bit 0 (omega arith); children_below = omega arith }

  pub nothing : (e : Seen X) → e.entries ≡ empty → e.spares ≡ empty → e.levels ≡ 1 → viewed {X = X} 0 [] 0 [] ≡ e
  nothing e f z y =
      let l : node_height {X = X} [] + 1 ≡ e.levels = omega (arith, y) in
      λ i. record { entries = (new_map {X = X} 0 0 [] [] refl refl ∙ sym f) i; spares = (new_set {X = X} 0 [] refl ∙ sym z) i; levels = l i }

  -- a value is alone in a new branch
  pub lone_slots : (n : ℕ) (v : X) → n < 31 → HasSlots {Y = Seen X} (2 ^ n) (v ∷ []) 0 []
  lone_slots n v l = record {
    values_counted = alone_counted n v (omega (arith, l));
    values_below = omega (arith, pow_mono {i = suc n} {j = 31} (omega (arith, l)), double n, pow_pos n);
    children_counted = ones_bit 0 (omega arith);
    children_below = omega arith;
  }

  pub lone_exchanged : {h : Option X} {may_grow : Bool} {room n : ℕ} (q : List Bool) (v : X) → length q < 5 → n ≡ place_of q → n < 31 → h ≡ Some v → IsTrue may_grow → IsInsertedBelow q h may_grow room bare 0 None (viewed (2 ^ n) (v ∷ []) 0 [])
  lone_exchanged {n = n} q v h k l e g =
      let s = seen no_slots (nothing bare refl refl refl) in
      let t = lone_slots n v l in
      record {
        old = sym (get_none q);
        map = λ u i.
            let d : Some v ≡ Some u = sym e ∙ i in
            let f : v ≡ u = cc in
            value_put_map q v s t h k (alone_places n v (omega (arith, l))) ∙ ap (insert empty q) f;
        spares = s.spare ∙ short_off q s h;
        count = omega (arith, value_count s t);
        levels = omega (arith, s.height);
        within = omega arith;
        grows = λ z. g;
      }

  pub chain_new : {h out : Option X} {less made : ℕ} (k : ℕ) (q r : List Bool) (e d : Seen X) → 5 * k ≤ length q → r ≡ drop (5 * k) q → IsSome h → e.entries ≡ empty → e.spares ≡ empty → e.levels ≡ 1 → IsInsertedBelow r h true less e made out d
      → IsInsertedBelow q h true (less + k) e (made + k) out (chain k q d)
  chain_new {h} {out} {less} {made} zero q r e d l f g a b c x =
      let u : less ≡ less + 0 = omega arith in
      let w : made ≡ made + 0 = omega arith in
      subst (λ n. IsInsertedBelow q h true n e (made + 0) out d) u (subst (λ n. IsInsertedBelow q h true less e n out d) w (subst (λ p. IsInsertedBelow p h true less e made out d) f x))
  chain_new {h} {out} {less} {made} (suc k) q r e d l f g a b c x =
      let t = chain_step k q r l f in
      let n = child_of q in
      let y = chain_new k (drop 5 q) r e d t.0 t.1 g a b c x in
      let u : made + k + 1 ≡ made + suc k = omega arith in
      let o = over_slots n (chain k (drop 5 q) d) (number_bound 5 q) in
      subst (λ z. IsInsertedBelow q h true (less + suc k) e z out (over n (chain k (drop 5 q) d))) u
      (exchanged_new (chain k (drop 5 q) d ∷ []) q e (chain k (drop 5 q) d) (seen no_slots (nothing e a b c)) (omega (arith, l)) refl (bit_at-zero n) refl (over_places n (chain k (drop 5 q) d) (number_bound 5 q)) o.children_counted o.children_below a b c refl g refl
      (omega (arith, y.within)) y)

  pub made_new : {h out : Option X} {less made : ℕ} (k skip : ℕ) (q r : List Bool) (e d : Seen X) → Starts k skip q → r ≡ drop (5 * k) q → IsSome h → e.entries ≡ empty → e.spares ≡ empty → e.levels ≡ 1 → IsInsertedBelow r h true less e made out d
      → IsInsertedBelow q h true (less + k) e (made + k) out (chain k (skipped k skip) d)
  made_new {h} {out} {less} {made} k skip q r e d s f g a b c x =
      subst (λ n. IsInsertedBelow q h true (less + k) e (made + k) out n) (sym (chain_along k q (skipped k skip) d s.0 s.1)) (chain_new k q r e d s.0 f g a b c x)
