-- The places of a node: their numbers, and the items at the places that a bitmap marks.
use Rattle.std.specs.Prelude.{◌≡◌, ℕ, zero, suc, leb, ◌+◌, ◌-◌, ◌/◌, ◌%◌, ◌^◌, ◌<◌, Bool, true, false, cond, eqb, nat_lt, if◌then◌else◌, not, List, [], ◌∷◌, length, count_ones, Option, Some, None}
use Rattle.std.specs.Ordering.{nat_cmp, eq_by_cmp}
use Rattle.std.specs.FinMap.Entries.{where_key}
use Rattle.std.specs.Int.{bit_at}
use Rattle.ipnet_blocks.specs.Blocks.{digits}
use Rattle.trie_core.specs.Bits.{number_from}
use Rattle.ipnet_blocks.specs.BitStrings.{begins}

-- the number of strings of fewer than k bits that come before this one, out of 2 ^ k - 1
abbrev pub place_from : ℕ → List Bool → ℕ
place_from k [] = 0
place_from zero (b ∷ bs) = 0
place_from (suc k) (b ∷ bs) = suc (cond b (2 ^ k - 1) 0 + place_from k bs)

-- the place of a string of fewer than five bits; places ascend in the order of a walk
abbrev pub place_of : List Bool → ℕ
place_of q = place_from 5 q

-- the number of the child on the path of a string
abbrev pub child_of : List Bool → ℕ
child_of q = number_from 5 q

-- the string of fewer than k bits that has n others before it
abbrev pub place_at : ℕ → ℕ → List Bool
place_at zero n = []
place_at (suc k) zero = []
place_at (suc k) (suc n) = if nat_lt n (2 ^ k - 1) then (false ∷ place_at k n) else (true ∷ place_at k (n - (2 ^ k - 1)))

-- the string at a place
unfoldable pub place_string : ℕ → List Bool
place_string n = place_at 5 n

-- the five bits of a child
unfoldable pub child_string : ℕ → List Bool
child_string n = digits 5 n

-- exactly the places of the prefixes of q are set in m
abbrev pub IsBeginMask : List Bool → ℕ → Type 0
IsBeginMask q m = (p : List Bool) → length p < 5 → bit_at m (place_of p) ≡ cond (begins p q) 1 0

-- the items, one at each of the w lowest set bits, in order; the place of the lowest bit is n
abbrev pub at_places : {X : Type 0} → ℕ → ℕ → ℕ → List X → List (ℕ × X)
at_places zero n bits xs = []
at_places (suc w) n bits [] = []
at_places (suc w) n bits (x ∷ xs) = cond (eqb (bits % 2) 1) ((n, x) ∷ at_places w (suc n) (bits / 2) xs) (at_places w (suc n) (bits / 2) (x ∷ xs))

-- the items at the places that a word of 32 bits marks
unfoldable pub placed : {X : Type 0} → ℕ → List X → List (ℕ × X)
placed bits xs = at_places 32 0 bits xs

-- each place is below w
abbrev pub AllBelow : {X : Type 0} → ℕ → List (ℕ × X) → Type 0
AllBelow w [] = Unit {0}
AllBelow w (e ∷ es) = (e.0 < w) × AllBelow w es

-- the first place
abbrev pub first_place_of : {X : Type 0} → List (ℕ × X) → Option ℕ
first_place_of [] = None
first_place_of (e ∷ es) = Some e.0

-- whether the first value comes before the first child in the order of a walk
abbrev pub place_first : Option ℕ → Option ℕ → Bool
place_first None c = false
place_first (Some p) None = true
place_first (Some p) (Some c) = leb (child_of (place_string p)) c

-- the list without the item at place n
abbrev pub without : {X : Type 0} → ℕ → List (ℕ × X) → List (ℕ × X)
without n xs = where_key nat_cmp (λ k. not (eq_by_cmp nat_cmp n k)) xs

-- the items, with strings instead of place numbers
abbrev pub named : {X : Type 0} → (ℕ → List Bool) → List (ℕ × X) → List (List Bool × X)
named f [] = []
named f (e ∷ es) = (f e.0, e.1) ∷ named f es

-- the values of a node, by their strings
unfoldable pub value_list : {X : Type 0} → ℕ → List X → List (List Bool × X)
value_list bits xs = named place_string (at_places 32 0 bits xs)

-- the children of a node, by their five bits
unfoldable pub child_list : {X : Type 0} → ℕ → List X → List (List Bool × X)
child_list bits xs = named child_string (at_places 32 0 bits xs)

-- no item is at place i
abbrev pub IsUnset : ℕ → ℕ → Type 0
IsUnset i bits = bits / 2 ^ i % 2 ≡ 0

-- an item is at place i, after k others
abbrev pub IsSlot : ℕ → ℕ → ℕ → Type 0
IsSlot i bits k = (bits / 2 ^ i % 2 ≡ 1) × (k ≡ count_ones (bits % 2 ^ i))

-- the greatest taken place, and the least
pub record IsLastPlace (bits place : ℕ) : Type 0 where
  pub within : place < 32
  pub taken : bit_at bits place ≡ 1
  pub above : (i : ℕ) → place < i → bit_at bits i ≡ 0

pub record IsFirstPlace (bits place : ℕ) : Type 0 where
  pub within : place < 32
  pub taken : bit_at bits place ≡ 1
  pub under : (i : ℕ) → i < place → bit_at bits i ≡ 0
