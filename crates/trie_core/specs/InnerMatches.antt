-- The match that a search holds.
use Rattle.std.specs.Prelude.{◌≡◌, ℕ, ◌+◌, ◌-◌, length, Some}
use Rattle.std.specs.FinMap.{get}
use Rattle.trie_core.specs.InnerPlaces.{place_string, IsLastPlace}
use Rattle.trie_core.specs.declared.node.Best.{Best}

-- the match in a path of so many bits has n bits and the value v
pub record IsMatch {X : Type 0} (best : Best X) (len n : ℕ) (v : X) : Type 0 where
  pub place : ℕ
  pub last : IsLastPlace best.found place
  pub bits : n ≡ len - best.left + length (place_string place)
  pub value : get best.branch.now.entries (place_string place) ≡ Some v
