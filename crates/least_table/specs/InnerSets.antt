-- Sets of hops in blocks, each after the number of its hops. A set is identified by the number of its block and its place there.
use Rattle.std.specs.Prelude.{◌≡◌, ℕ, suc, ◌+◌, ◌/◌, ◌%◌, ◌≤◌, List, [], length, take, drop, slice_index_or, Option, Some, None}

-- the number of hops of the set at a place of a block
abbrev pub size_of : Option ℕ → ℕ
size_of None = 0
size_of (Some n) = n

abbrev pub size_in : List (Option ℕ) → ℕ → ℕ
size_in block place = size_of (slice_index_or block place None)

-- the hops of the set
abbrev pub set_in : List (Option ℕ) → ℕ → List (Option ℕ)
set_in block place = take (size_in block place) (drop (suc place) block)

-- the block of a set
abbrev pub block_of_set : List (List (Option ℕ)) → ℕ → List (Option ℕ)
block_of_set sets at = slice_index_or sets (at / 512) []

-- there is a complete set with this identifier
abbrev pub HasSet : List (List (Option ℕ)) → ℕ → Type 0
HasSet sets at = suc (at % 512) + size_in (block_of_set sets at) (at % 512) ≤ length (block_of_set sets at)

-- the hops of the set with this identifier
abbrev pub set_at : List (List (Option ℕ)) → ℕ → List (Option ℕ)
set_at sets at = set_in (block_of_set sets at) (at % 512)

-- each old set is unchanged and has the same identifier
abbrev pub KeepsSets : List (List (Option ℕ)) → List (List (Option ℕ)) → Type 0
KeepsSets old new = (at : ℕ) → HasSet old at → HasSet new at × (set_at new at ≡ set_at old at)
