-- The state of a mutable iterator after each step.
use Rattle.std.specs.Prelude.{◌≡◌, ◌&&◌, List, [], Bool, false, Option, None, OnSome, IfNone, MatchOption, option_and_then}
use Rattle.std.specs.Borrow.{Fml, RattleType, MutBor, LendsSo}
use Rattle.std.specs.FinMap.{get, entries}
use Rattle.std.specs.FinMap.Entries.{where_key}
use mir.Syntax.{named}
use Rattle.trie_core.specs.Bits.{is_from}
use Rattle.ipnet_blocks.specs.BitStrings.{bits_cmp, begins}
use Rattle.prefix_trie.specs.Seen.{SeenMap, with_value}
use Rattle.ipnet_addr.specs.declared.key.Key as key
use Rattle.prefix_trie.specs.declared.prefix.Prefix as prefix
use Rattle.prefix_trie.specs.Maps.{first_key}
use Rattle.prefix_trie.specs.declared.iter_mut.IterMut.{IterMut}
use Rattle.prefix_trie.specs.contracts.iter_mut.IterMut.{the_row}

module _ {P X R : Type 0} {g : prefix.Ghosts P R} {k : key.Ghosts R} where
  -- the reference to the map
  abbrev pub lent_map_ref : IterMut P X R g k → MutBor (SeenMap X)
  lent_map_ref s = s.map

  -- the map that the iterator refers to
  abbrev pub lent_map : IterMut P X R g k → SeenMap X
  lent_map s = s.map.now

  -- the bit string that all remaining keys begin with
  abbrev pub lent_inside : IterMut P X R g k → List Bool
  lent_inside s = s.inside

  -- the bits of the next key
  abbrev pub next_bits : IterMut P X R g k → Option (List Bool)
  next_bits s = s.next

  -- the value of the next key
  abbrev pub next_value : IterMut P X R g k → Option X
  next_value s = option_and_then (get s.map.now.entries) s.next

  -- n is s after w is written as the value of q; the next key is the first remaining one after q
  pub record IsStep (s : IterMut P X R g k) (q : List Bool) (w : X) (n : IterMut P X R g k) : Type 0 where
    pub same_map : (lent_map_ref n).ghost_name ≡ (lent_map_ref s).ghost_name
    pub map : lent_map n ≡ with_value (lent_map s) q w
    pub same_inside : lent_inside n ≡ lent_inside s
    pub next : next_bits n ≡ first_key (where_key bits_cmp (λ k. is_from q false k && begins (lent_inside s) k) (entries (lent_map s).entries))

  -- n is s, and nothing is left
  pub record IsEnd (s n : IterMut P X R g k) : Type 0 where
    pub same_map : (lent_map_ref n).ghost_name ≡ (lent_map_ref s).ghost_name
    pub map : lent_map n ≡ lent_map s
    pub same_inside : lent_inside n ≡ lent_inside s
    pub next : next_bits n ≡ None

module _ (P T R : RattleType) {g : prefix.Ghosts P.Denot R.Denot} {k : key.Ghosts R.Denot} where
  -- once the borrow r ends, the value of the key is the last one written through r, and the iterator is one step further
  abbrev pub iter_lends : MutBor (IterMut P.Denot T.Denot R.Denot g k) → Option (MutBor T.Denot) → Fml
  iter_lends s r = LendsSo (the_row (record { mir = named 1; lft = [] }) P T R g k) T s r (λ n w. OnSome r (MatchOption (next_bits s.now) (Unit {0}) (λ q. IsStep s.now q w n))) (λ n. IfNone r (IsEnd s.now n))
