-- What an entry becomes as its value is written.
use Rattle.std.proofs.Common.{◌≡◌, Bool, cond, List, refl, sym, ap, subst, ◌∙◌, Option, Some, None, MatchOption, is_some, IsTrue, IsSome, arith}
use Rattle.std.specs.Ordering.{eq_by_cmp}
use Rattle.std.specs.FinMap.{get, insert, get-insert, same_map}
use mathlib.Core.Bool.{Bool-set}
use denote.MutBor.{at_last}
use Rattle.ipnet_blocks.specs.BitStrings.{bits_cmp}
use Rattle.ipnet_addr.specs.declared.key.Key as key
use Rattle.prefix_trie.specs.declared.prefix.Prefix as prefix
use Rattle.trie_core.proofs.Strings.{bits_total, bits_same}
use Rattle.trie_core.specs.Nodes.{BitMap, BitSet}
use Rattle.trie_core.specs.Ways.{off_way}
use Rattle.prefix_trie.specs.Seen.{SeenMap, with_value}
use Rattle.prefix_trie.specs.declared.entry.OccupiedEntry.{OccupiedEntry}
use Rattle.prefix_trie.specs.Entry.{Occupied, with_entry_value, IsWritten, IsStored}
use Rattle.trie_core.proofs.Maps.{get-written}

module _ {P X R : Type 0} {g : prefix.Ghosts P R} {k : key.Ghosts R} (o : OccupiedEntry P X R g k) where
  pub still_stored : (q : List Bool) (w : X) → q ≡ g.bits o.key → IsSome (get (insert o.map.now.entries q w) (g.bits o.key))
  still_stored q w e = subst (λ r. IsSome (get (insert o.map.now.entries q w) r)) e (ap is_some (get-written o.map.now.entries q w))

  written_here : (w : X) (s : IsSome (get (insert o.map.now.entries (g.bits o.key) w) (g.bits o.key))) (l : IsTrue (g.fits o.key))
      → record { map = at_last o.map (with_value o.map.now (g.bits o.key) w); key = o.key; fits = l; stored = s } ≡ with_entry_value o w
  written_here w s l = λ i. record (with_entry_value o w) { fits = Bool-set _ _ l o.fits i; stored = Bool-set _ _ s (with_entry_value o w).stored i }

  pub occupied_written : (q : List Bool) (e : q ≡ g.bits o.key) (w : X) (s : IsSome (get (insert o.map.now.entries q w) (g.bits o.key))) (l : IsTrue (g.fits o.key))
      → record { map = at_last o.map (with_value o.map.now q w); key = o.key; fits = l; stored = s } ≡ with_entry_value o w
  occupied_written q e w s l =
      subst (λ r. (s : IsSome (get (insert o.map.now.entries r w) (g.bits o.key))) → record { map = at_last o.map (with_value o.map.now r w); key = o.key; fits = l; stored = s } ≡ with_entry_value o w) (sym e) (λ s. written_here w s l) s

  pub occupied_IsWritten : (w : X) → IsWritten (Occupied o) w (Occupied (with_entry_value o w))
  occupied_IsWritten w = record { same_map = refl; map = refl; key = refl; value = get-written o.map.now.entries (g.bits o.key) w }

-- the map of an entry that is left as it was, but for the value of its key
pub rest_kept : {X : Type 0} (m : SeenMap X) (q r : List Bool) (w : X) → r ≡ q → MatchOption (get (insert m.entries r w) q) (with_value m r w ≡ m) (λ v. with_value m r w ≡ with_value m q v)
rest_kept m q r w e = subst (λ t. MatchOption (get (insert m.entries t w) q) (with_value m t w ≡ m) (λ v. with_value m t w ≡ with_value m q v)) (sym e) (subst (λ o. MatchOption o (with_value m q w ≡ m) (λ v. with_value m q w ≡ with_value m q v)) (sym (get-written m.entries q w)) refl)

-- the spare nodes once a value is stored
pub spares_after : {X : Type 0} (m : SeenMap X) (q : List Bool) (b : BitSet) → b ≡ off_way m.spares q → (IsSome (get m.entries q) → b ≡ m.spares) → MatchOption (get m.entries q) (b ≡ off_way m.spares q) (λ v. b ≡ m.spares)
spares_after {X} m q b e k = by (get m.entries q) k
  where
    by : (o : Option X) → (IsSome o → b ≡ m.spares) → MatchOption o (b ≡ off_way m.spares q) (λ v. b ≡ m.spares)
    by None k = e
    by (Some v) k = k refl

-- the same of the whole map, where the key was given by other bits
pub stored_at : {X : Type 0} (m : SeenMap X) (q r : List Bool) (n : SeenMap X) (v : X) → r ≡ q → n.entries ≡ insert m.entries r v → n.spares ≡ off_way m.spares r → (IsSome (get m.entries r) → n.spares ≡ m.spares) → IsStored m q v n
stored_at m q r n v f e s k = record { map = e ∙ ap (λ t. insert m.entries t v) f; spares = spares_after m q n.spares (s ∙ ap (off_way m.spares) f) (λ h. k (subst (λ t. IsSome (get m.entries t)) (sym f) h)) }

module _ {X : Type 0} (m : BitMap X) (q : List Bool) where
  same_other : (x : List Bool) (v w : X) (b : Bool) (o : Option X) → cond b (Some w) (cond b (Some v) o) ≡ cond b (Some w) o
  same_other x v w b o = grind arith

  -- a second write at a key
  pub insert-twice : (v w : X) → insert (insert m q v) q w ≡ insert m q w
  insert-twice v w =
      same_map bits_total bits_same _ _
      (λ x. get-insert bits_total (insert m q v) q w x ∙ ap (cond (eq_by_cmp bits_cmp x q) (Some w)) (get-insert bits_total m q v x) ∙ same_other x v w (eq_by_cmp bits_cmp x q) (get m x) ∙ sym (get-insert bits_total m q w x))

  module _ (n : BitMap X) (r : List Bool) (v : X) (e : n ≡ insert m q v) (f : r ≡ q) where
    pub is_there : get n r ≡ Some v
    is_there = (λ i. get (e i) (f i)) ∙ get-written m q v

    pub stored_after : IsSome (get n r)
    stored_after = ap is_some is_there

    pub written_over : (w : X) → insert n r w ≡ insert m q w
    written_over w = (λ i. insert (e i) (f i) w) ∙ insert-twice v w

    pub value_after : (x : X) → get n r ≡ Some x → x ≡ v
    value_after x h = let i : Some x ≡ Some v = sym h ∙ is_there in cc
