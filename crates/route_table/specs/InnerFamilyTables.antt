-- One side of a table, and how it is stored: a finite map from the bit strings of one family to the choices of networks.
use Rattle.std.specs.Prelude.{◌≡◌, ◌≤◌, ◌↔◌, ℕ, Bool, false, List, [], Option, Some, Result, IfErr, IfOk, IfSome, IsTrue, OnErr, OnOk, is_some, length, map, All}
use Rattle.std.specs.FinMap.{get, entries}
use Rattle.ipnet_addr.specs.Addresses.{Family, width}
use Rattle.ipnet_blocks.specs.Blocks.{Block}
use Rattle.trie_core.specs.Bits.{number_from}
use Rattle.trie_core.specs.Nodes.{BitMap}
use Rattle.route_choices.specs.Choices.{Choice, AreChoices, holds_hop, is_one_too_many}
use Rattle.route_choices.specs.declared.hop.Hop.{Hop}
use Rattle.route_laws.specs.Networks.{Stored, IsStoredTable, best_route, choices_at, routes_of, with_choice, without_choice}
use Rattle.route_laws.specs.Tables.{Route, match_number, match_of}
use Rattle.route_table.specs.Given.{IsNewLeaf}
use Rattle.route_table.specs.Refusals.{IsRefused}
use Rattle.route_table.specs.declared.refused.AddRefused.{AddRefused}

-- a table of networks of one family
pub record IsFamilyTable (f : Family) (T : List Stored) : Type 0 where
  pub table : IsStoredTable T
  pub family : All (λ s. s.block.family ≡ f) T

-- the block of a family with this bit string
abbrev pub block_at : Family → List Bool → Block
block_at f s = record { family = f; len = length s; quotient = number_from (length s) s }

abbrev pub stored_at : Family → List Bool × List Choice → Stored
stored_at f e = record { block = block_at f e.0; choices = e.1 }

-- the stored networks of a map, ascending
abbrev pub stored_in : Family → BitMap (List Choice) → List Stored
stored_in f m = map (stored_at f) (entries m)

-- the best route of an entry
abbrev pub route_at : Family → List Bool × List Choice → Route
route_at f e = best_route (stored_at f e)

-- no key is longer than an address, and each has one to eight choices
pub record IsStored (f : Family) (m : BitMap (List Choice)) : Type 0 where
  pub within : (s : List Bool) (cs : List Choice) → get m s ≡ Some cs → length s ≤ width f
  pub choices : (s : List Bool) (cs : List Choice) → get m s ≡ Some cs → AreChoices cs
  pub some : (s : List Bool) (cs : List Choice) → get m s ≡ Some cs → cs ≡ [] → ⊥

-- a choice was added to a network, or refused: the table after it, and the numbers of its longest match before and after
pub record AddsTo (T : List Stored) (b : Block) (c : Choice) (result : Result (Option ℕ × Option ℕ × Bool) AddRefused) (U : List Stored) : Type 0 where
  pub hops : IfOk result (λ r. (r.0 ≡ match_number (match_of (routes_of T) b)) × (r.1 ≡ match_number (match_of (routes_of U) b)))
  pub leaf : IfOk result (λ r. IsTrue r.2 ↔ IsNewLeaf T U b)
  pub networks : OnOk result (U ≡ with_choice T b c)
  pub room : OnOk result (is_one_too_many (choices_at T b) c.hop ≡ false)
  pub refused : IfErr result (IsRefused (choices_at T b) c.hop)
  pub unchanged : OnErr result (U ≡ T)

-- the same for the removal of a hop from a network, if it had the hop
pub record RemovesFrom (T : List Stored) (b : Block) (h : Hop) (result : Option (Option ℕ × Option ℕ)) (U : List Stored) : Type 0 where
  pub held : is_some result ≡ holds_hop (choices_at T b) h
  pub hops : IfSome result (λ r. (r.0 ≡ match_number (match_of (routes_of T) b)) × (r.1 ≡ match_number (match_of (routes_of U) b)))
  pub networks : U ≡ without_choice T b h
