-- Lists in blocks of one size.
use Rattle.std.specs.Prelude.{◌≡◌, ℕ, ◌<◌, ◌≤◌, All, List, length, flat_map, Vec}
use Rattle.std.specs.declared.alloc.Global.{Global}

module _ {X : Type 0} where
  -- the items of the blocks, block by block
  abbrev pub joined_blocks : List (Vec X Global) → List X
  joined_blocks = flat_map (λ b. b.items)

  -- each block has exactly `size` items
  abbrev pub AreFull : ℕ → List (Vec X Global) → Type 0
  AreFull size blocks = All (λ b. length b.items ≡ size) blocks

-- the number of items that a block may have
abbrev pub IsSize : ℕ → Type 0
IsSize size = (0 < size) × (size ≤ 1024)
