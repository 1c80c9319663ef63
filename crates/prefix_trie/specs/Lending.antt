-- The value of a map after a mutable reference into it ended.
use Rattle.std.specs.Prelude.{◌≡◌, ℕ, List, Bool, Option, OnSome, IfNone, take}
use Rattle.std.specs.Borrow.{Fml, RattleType, MutBor, Lends, LendsIf, LendsSo}
use Rattle.prefix_trie.specs.Seen.{SeenMap, with_value}
use Rattle.trie_core.specs.Search.{NoBeginning, IsLongest}
use Rattle.ipnet_addr.specs.declared.key.Key as key
use Rattle.prefix_trie.specs.declared.prefix.Prefix as prefix
use Rattle.prefix_trie.specs.contracts.map.PrefixMap.{the_row}

-- n is m with w at the longest prefix of q that is a key
abbrev pub IsWrittenAtLongest : {X : Type 0} → SeenMap X → List Bool → X → SeenMap X → Type 0
IsWrittenAtLongest {X} m q w n = (k : ℕ) (v : X) → IsLongest m.entries q k v → n ≡ with_value m (take k q) w

module _ (P T R : RattleType) (g : prefix.Ghosts P.Denot R.Denot) (k : key.Ghosts R.Denot) (m : MutBor (SeenMap T.Denot)) (q : List Bool) where
  -- the map ends with the last value written through r at q
  abbrev pub lends_value : MutBor T.Denot → Fml
  lends_value r = Lends (the_row P T R g k) T m r (with_value m.now q)

  -- the same if r is a reference; else the map is unchanged
  abbrev pub lends_get : Option (MutBor T.Denot) → Fml
  lends_get r = LendsIf (the_row P T R g k) T m r (with_value m.now q) m.now

  -- the map ends with the last value written through r at the longest prefix of q that is a key; if there is none, it is unchanged
  abbrev pub lends_longest : Option (MutBor T.Denot) → Fml
  lends_longest r = LendsSo (the_row P T R g k) T m r (λ n w. OnSome r (IsWrittenAtLongest m.now q w n)) (λ n. IfNone r ((n ≡ m.now) × NoBeginning m.now.entries q))
