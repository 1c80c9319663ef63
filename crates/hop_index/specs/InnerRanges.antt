-- Ascending ranges, and the cells that narrow a search in them.
use Rattle.std.specs.Prelude.{◌≡◌, ◌==◌, ℕ, suc, ◌+◌, ◌*◌, ◌/◌, ◌%◌, ◌-◌, ◌^◌, ◌<◌, ◌≤◌, ◌&&◌, not, if◌then◌else◌, Bool, false, List, [], ◌∷◌, Option, Some, None, All, AllPairs, length, slice_index, slice_index_or}
use Rattle.ipnet_addr.specs.Addresses.{Address, Family, width}
use Rattle.route_laws.specs.Flats.{IsFlat, Piece}
use Rattle.hop_index.specs.Ranges.{HopRange, hop_in}
use Rattle.hop_index.specs.declared.ranges.Range.{Range}

-- f of each index and the value at it
abbrev pub map_at : {A B : Type 0} → (ℕ → A → B) → List A → List B
map_at f [] = []
map_at f (x ∷ xs) = f 0 x ∷ map_at (λ k. f (suc k)) xs

-- the hop that is stored: 2 ^ 32 - 1 stands for no hop, unless a mark says that it is the hop
abbrev pub hop_of_mark : ℕ → Bool → Option ℕ
hop_of_mark hop marked = if hop == 4294967295 && not marked then None else Some hop

-- a stored range with the bits after the front of its last number, and its mark; ones and false stand for those after the ends of the lists
abbrev pub whole_range : {F : Type 0} → (F → ℕ → ℕ) → List ℕ → List Bool → ℕ → Range F → HopRange
whole_range joined rests marks k r = record { last = joined r.front (slice_index_or rests k 18446744073709551615); hop = hop_of_mark r.hop (slice_index_or marks k false) }

-- the range at an index
abbrev pub range_at : List HopRange → ℕ → HopRange
range_at rs k = slice_index_or rs k (record { last = 0; hop = None })

-- no range ends below the range before it
abbrev pub AreAscending : List HopRange → Type 0
AreAscending rs = AllPairs (λ r s. r.last ≤ s.last) rs

abbrev pub EndBelow : ℕ → List HopRange → Type 0
EndBelow x rs = All (λ r. r.last < x) rs

-- at least `low` and at most `high` ranges end below x
pub record IsBetween (rs : List HopRange) (x low high : ℕ) : Type 0 where
  pub order : low ≤ high
  pub within : high ≤ length rs
  pub below : (k : ℕ) → k < low → (range_at rs k).last < x
  pub from : (k : ℕ) → high ≤ k → k < length rs → x ≤ (range_at rs k).last

-- ascending ranges that end below `end`, at least four of them at the number before it
pub record ArePadded (rs : List HopRange) (end : ℕ) : Type 0 where
  pub ascending : AreAscending rs
  pub within : EndBelow end rs
  pub four : 4 ≤ length rs
  pub pads : end ≤ (range_at rs (length rs - 4)).last + 1

-- the first cell of each chunk, and the number of all cells. A chunk has the numbers with the same first 16 bits, and at least one cell
pub record AreTops (tops : List ℕ) : Type 0 where
  pub all : length tops ≡ 65537
  pub rising : AllPairs (λ (c d : ℕ). c < d) tops

-- the first 64 bits of a number of `width` bits; a number of IPv4 has zeros after its 32 bits
abbrev pub head_of : ℕ → ℕ → ℕ
head_of width x = x * 2 ^ 64 / 2 ^ width

-- the cell of a number by its first 64 bits: the cells of a chunk divide its numbers evenly, by the 32 bits after the first 16
abbrev pub cell_of : List ℕ → ℕ → ℕ
cell_of tops head =
    let chunk = head / 2 ^ 48 in
    slice_index tops chunk + head % 2 ^ 48 / 2 ^ 16 * (slice_index tops (chunk + 1) - slice_index tops chunk) / 2 ^ 32

-- ascending ranges that give the addresses of a family the hops of a flat list
pub record AreRangesOf (ps : List Piece) (f : Family) (rs : List HopRange) : Type 0 where
  pub ascending : AreAscending rs
  pub within : EndBelow (2 ^ width f) rs
  pub hops : (h : Address → Option ℕ) → IsFlat h ps → (n : ℕ) → n < 2 ^ width f → hop_in rs n ≡ h (record { family = f; number = n })
