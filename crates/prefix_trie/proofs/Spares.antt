-- The spare nodes of a map: where they may stand, how many they are, and that none comes where none was.
use Rattle.std.proofs.Common.{◌≡◌, inl, inr, Bool, true, false, cond, not, List, [], ◌++◌, refl, sym, ap, ◌∙◌, Option, Some, None, is_some, IsSome, arith}
use Rattle.std.specs.FinMap.{get, insert, len, empty, remove, get-empty, get-insert, get-remove, same_map}
use Rattle.std.proofs.lemmas.Bool.{both_ways, cases_Bool}
use Rattle.ipnet_addr.proofs.Basics.{none_some}
use Rattle.ipnet_blocks.specs.BitStrings.{bits_cmp, begins}
use Rattle.trie_core.proofs.Strings.{bits_total, bits_same, same, same_false}
use Rattle.trie_core.specs.Nodes.{BitMap, BitSet, Seen}
use Rattle.trie_core.specs.InnerCount.{spare_count}
use Rattle.trie_core.specs.Inside.{outside}
use Rattle.trie_core.specs.Ways.{IsIdle, AreIdle, off_way, IsLeft, IsKept}
use Rattle.trie_core.proofs.Maps.{remove_absent}
use Rattle.trie_core.proofs.Ways.{get-off, no_choice}
use Rattle.ipnet_blocks.proofs.BitStrings.{begins_on, begun_rest}
use Rattle.trie_core.proofs.Inside.{get-outside}

not_some : (o : Option (Unit {0})) → (is_some o ≡ true → ⊥) → o ≡ None
not_some o h = grind arith

of_other : (o : Option (Unit {0})) (b : Bool) → is_some (cond b None o) ≡ true → is_some o ≡ true
of_other o b h = grind arith

of_same : (o : Option (Unit {0})) (b : Bool) → is_some (cond (not b) o None) ≡ true → (b ≡ false) × (is_some o ≡ true)
of_same o b h = grind arith

-- ---- where they stand

module _ {X : Type 0} where
  pub idle_none : (m : BitMap X) (b : BitSet) → b ≡ empty → AreIdle m b
  idle_none m b e s h = let z : false ≡ true = sym (ap is_some (ap (λ c. get c s) e ∙ get-empty bits_cmp s)) ∙ h in cc

  -- the key q comes
  pub idle_off : (m n : BitMap X) (a b : BitSet) (q : List Bool) (v : X) → AreIdle m a → n ≡ insert m q v → b ≡ off_way a q → AreIdle n b
  idle_off m n a b q v f k e s h =
      let t = of_same (get a s) (begins s q) (sym (ap is_some (ap (λ c. get c s) e ∙ get-off a q s)) ∙ h) in
      let i = f s t.1 in
      record {
        below = i.below;
        fives = i.fives;
        none = λ x. ap (λ c. get c (s ++ x)) k ∙ get-insert bits_total m q v (s ++ x) ∙ ap (λ c. cond c (Some v) (get m (s ++ x))) (same_false (s ++ x) q (λ p. both_ways _ t.0 (sym (ap (begins s) p) ∙ begins_on s x))) ∙ i.none x;
      }

  -- no spare node stands on the way to a key
  pub off_stored : (m : BitMap X) (a : BitSet) (q : List Bool) → AreIdle m a → IsSome (get m q) → off_way a q ≡ a
  off_stored m a q f o = same_map bits_total bits_same _ _ (λ s. get-off a q s ∙ by s (begins s q) refl (get a s) refl)
    where
      by : (s : List Bool) (b : Bool) → begins s q ≡ b → (w : Option (Unit {0})) → get a s ≡ w → cond (not b) (get a s) None ≡ get a s
      by s false e w h = refl
      by s true e None h = sym h
      by s true e (Some x) h = let z : is_some (get m q) ≡ false = ap (λ r. is_some (get m r)) (sym (begun_rest s q e)) ∙ ap is_some ((f s (ap is_some h)).none _) in absurd (both_ways _ z o)

  -- a key that is there gets another value
  pub idle_with : (m : BitMap X) (a : BitSet) (q : List Bool) (w : X) → AreIdle m a → IsSome (get m q) → AreIdle (insert m q w) a
  idle_with m a q w f o s h =
      let i = f s h in
      record {
        below = i.below;
        fives = i.fives;
        none = λ x. get-insert bits_total m q w (s ++ x) ∙ ap (λ c. cond c (Some w) (get m (s ++ x))) (same_false (s ++ x) q (λ p. none_some (ap (get m) (sym p) ∙ i.none x) o)) ∙ i.none x;
      }

  fewer : (m n : BitMap X) (s : List Bool) → ((x : List Bool) → get m x ≡ None → get n x ≡ None) → IsIdle m s → IsIdle n s
  fewer m n s f i = record { below = i.below; fives = i.fives; none = λ x. f (s ++ x) (i.none x) }

  -- keys go
  pub idle_left : (lost : List Bool → Bool) (q : List Bool) (m : BitMap X) (a : BitSet) (n : BitMap X) (b : BitSet) → AreIdle m a → ((x : List Bool) → get m x ≡ None → get n x ≡ None) → IsLeft lost q a n b → AreIdle n b
  idle_left lost q m a n b f k l s h = elim (cases_Bool (begins s q)) [
    | inl e ↦ ((l.on s e).0 h).0
    | inr e ↦ fewer m n s k (f s (of_other (get a s) (lost s) (sym (ap is_some (l.off s e)) ∙ h)))
  ]

  pub idle_kept : (q : List Bool) (m : BitMap X) (a : BitSet) (n : BitMap X) (b : BitSet) → AreIdle m a → ((x : List Bool) → get m x ≡ None → get n x ≡ None) → IsKept q m a n b → AreIdle n b
  idle_kept q m a n b f g k s h = elim (cases_Bool (begins s q)) [
    | inl e ↦ elim ((k.on s e).0 h) [
      | inl w ↦ fewer m n s g (f s w)
      | inr w ↦ w.1
    ]
    | inr e ↦ fewer m n s g (f s (sym (ap is_some (k.off s e)) ∙ h))
  ]

  pub fewer_removed : (m n : BitMap X) (q : List Bool) → n ≡ remove m q → (x : List Bool) → get m x ≡ None → get n x ≡ None
  fewer_removed m n q e x h = ap (λ k. get k x) e ∙ get-remove bits_total m q x ∙ ap (λ o. cond (same x q) None o) h ∙ no_choice (same x q)

  pub fewer_outside : (m n : BitMap X) (q : List Bool) → n ≡ outside m q → (x : List Bool) → get m x ≡ None → get n x ≡ None
  fewer_outside m n q e x h = ap (λ k. get k x) e ∙ get-outside m q x ∙ ap (λ o. cond (not (begins q x)) o None) h ∙ no_choice (not (begins q x))

  -- ---- how many they are

  pub spares_len : (s : Seen X) → AreIdle s.entries s.spares → spare_count s ≡ len s.spares
  spares_len s f = ap len (remove_absent s.spares [] (not_some (get s.spares []) (λ h. omega (arith, (f [] h).below))))

  -- ---- none comes where none was

  pub tidy_left : (lost : List Bool → Bool) (q : List Bool) (a : BitSet) (m : BitMap X) (b : BitSet) → IsLeft lost q a m b → a ≡ empty → b ≡ empty
  tidy_left lost q a m b l e = same_map bits_total bits_same b empty (λ s. not_some (get b s) (λ h. elim (cases_Bool (begins s q)) [
    | inl w ↦ let k = ((l.on s w).0 h).1 in nowhere _ k.1
    | inr w ↦ nowhere s (of_other (get a s) (lost s) (sym (ap is_some (l.off s w)) ∙ h))
  ]) ∙ sym (get-empty bits_cmp s))
    where
      nowhere : (s : List Bool) → is_some (get a s) ≡ true → ⊥
      nowhere s h = let z : false ≡ true = sym (ap is_some (ap (λ c. get c s) e ∙ get-empty bits_cmp s)) ∙ h in cc
