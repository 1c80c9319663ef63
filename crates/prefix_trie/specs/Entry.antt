-- The words for the contracts of an entry. They apply to its two variants too, as in `entry_value (Occupied o)`.
pub use Rattle.prefix_trie.specs.declared.entry.Entry.TheVariants.{Occupied, Vacant}
use Rattle.std.specs.Prelude.{◌≡◌, List, Bool, true, false, Option, Some, Result, is_some, MatchOption, OnErr, IsOk, []}
use Rattle.std.specs.Borrow.{Fml, RattleType, MutBor, follows, follows_so, name_if_ok}
use Rattle.std.specs.FinMap.{get, insert}
use Rattle.std.proofs.Common.{ap}
use mir.Syntax.{named}
use Rattle.prefix_trie.specs.Seen.{SeenMap, with_value}
use Rattle.trie_core.specs.Ways.{off_way}
use Rattle.ipnet_addr.specs.declared.key.Key as key
use Rattle.prefix_trie.specs.declared.prefix.Prefix as prefix
use Rattle.prefix_trie.specs.declared.entry.Entry.{Entry}
use Rattle.prefix_trie.specs.declared.entry.OccupiedEntry.{OccupiedEntry}
use Rattle.prefix_trie.specs.contracts.map.PrefixMap.{the_row}
use Rattle.prefix_trie.specs.contracts.entry.OccupiedEntry as occupied
use Rattle.trie_core.proofs.Maps.{get-written}

module _ {P X R : Type 0} {g : prefix.Ghosts P R} {k : key.Ghosts R} where
  -- the reference to the map
  abbrev pub entry_map_ref : Entry P X R g k → MutBor (SeenMap X)
  entry_map_ref (Vacant e) = e.map
  entry_map_ref (Occupied o) = o.map

  -- the map that the entry refers to
  abbrev pub entry_map : Entry P X R g k → SeenMap X
  entry_map e = (entry_map_ref e).now

  abbrev pub entry_key : Entry P X R g k → P
  entry_key (Vacant e) = e.key
  entry_key (Occupied o) = o.key

  -- the value of the key
  abbrev pub entry_value : Entry P X R g k → Option X
  entry_value e = get (entry_map e).entries (g.bits (entry_key e))

  -- the first if the entry is occupied, and the second if it is vacant
  abbrev pub MatchEntry : Entry P X R g k → Type 0 → Type 0 → Type 0
  MatchEntry (Vacant e) A B = B
  MatchEntry (Occupied o) A B = A

  -- whether the entry is occupied
  abbrev pub is_occupied : Entry P X R g k → Bool
  is_occupied (Vacant e) = false
  is_occupied (Occupied o) = true

  -- o after w is written as its value
  abbrev pub with_entry_value : OccupiedEntry P X R g k → X → OccupiedEntry P X R g k
  with_entry_value o w = record {
    map = record o.map { now = with_value o.map.now (g.bits o.key) w };
    key = o.key;
    fits = o.fits;
    stored = ap is_some (get-written o.map.now.entries (g.bits o.key) w);
  }

  -- d is the entry e after w is written as its value
  pub record IsWritten (e : Entry P X R g k) (w : X) (d : Entry P X R g k) : Type 0 where
    pub same_map : (entry_map_ref d).ghost_name ≡ (entry_map_ref e).ghost_name
    pub map : entry_map d ≡ with_value (entry_map e) (g.bits (entry_key e)) w
    pub key : entry_key d ≡ entry_key e
    pub value : entry_value d ≡ Some w

-- n is m with w at q; if q is new, the nodes on its path are no longer spare
pub record IsStored {X : Type 0} (m : SeenMap X) (q : List Bool) (w : X) (n : SeenMap X) : Type 0 where
  pub map : n.entries ≡ insert m.entries q w
  pub spares : MatchOption (get m.entries q) (n.spares ≡ off_way m.spares q) (λ v. n.spares ≡ m.spares)

module _ (P T R : RattleType) {g : prefix.Ghosts P.Denot R.Denot} {k : key.Ghosts R.Denot} where
  -- once the borrow r ends, the map has the last value written through r at the stored key
  abbrev pub entry_lends : Entry P.Denot T.Denot R.Denot g k → MutBor T.Denot → Fml
  entry_lends e r = follows (the_row P T R g k) T (entry_map_ref e).ghost_name r.ghost_name (with_value (entry_map e) (g.bits (entry_key e)))

  -- the same if r is a reference, whose key may be new; else the map is unchanged
  abbrev pub entry_lends_ok : {E : Type 0} → Entry P.Denot T.Denot R.Denot g k → Result (MutBor T.Denot) E → Fml
  entry_lends_ok e r =
      follows_so (the_row P T R g k) T (entry_map_ref e).ghost_name (name_if_ok (λ x. x.ghost_name) r)
      (λ w n. IsOk r → IsStored (entry_map e) (g.bits (entry_key e)) w n)
      (λ n. OnErr r (n ≡ entry_map e))

  -- once the borrow r ends, the entry behind o has the last value written through r. Its lifetime is the second of the signature
  abbrev pub occupied_lends : MutBor (OccupiedEntry P.Denot T.Denot R.Denot g k) → MutBor T.Denot → Fml
  occupied_lends o r = follows (occupied.the_row (record { mir = named 1; lft = [] }) P T R g k) T o.ghost_name r.ghost_name (with_entry_value o.now)
