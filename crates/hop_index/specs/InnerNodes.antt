-- Nodes, which divide cells again, and the entries of cells.
use Rattle.std.specs.Prelude.{◌≡◌, ◌==◌, ℕ, ◌+◌, ◌-◌, ◌/◌, ◌%◌, ◌^◌, ◌<◌, ◌≤◌, if◌then◌else◌, List, Option, Some, None, length, min, slice_index, slice_index_or}
use Rattle.ipnet_addr.specs.Addresses.{Address, Family, Ipv4, Ipv6, width}
use Rattle.hop_index.specs.Indexes.{Index, ranges_of}
use Rattle.hop_index.specs.Ranges.{HopRange, hop_in}
use Rattle.hop_index.specs.InnerRanges.{IsBetween, cell_of, head_of}

-- a cell in which the ranges from `before` to `after` end, divided into `last` + 1 cells of 2 ^ `shift` numbers; the entry of the first one is at `place`
pub record StoredNode : Type 0 where
  pub before : ℕ
  pub after : ℕ
  pub first : ℕ
  pub shift : ℕ
  pub last : ℕ
  pub place : ℕ

-- the cell of a number among those of the node
abbrev pub cell_in : StoredNode → ℕ → ℕ
cell_in n x = min n.last ((x - n.first) / 2 ^ n.shift)

-- the cell of a number among those of all chunks, or of the node if there are no tops
abbrev pub cell_by : ℕ → Option (List ℕ) → StoredNode → ℕ → ℕ
cell_by width None n x = cell_in n x
cell_by width (Some tops) n x = cell_of tops (head_of width x)

-- an entry from 2 ^ 30 on that is below 2 ^ 31 has a hop
abbrev pub HasHop : ℕ → Type 0
HasHop entry = (1073741824 ≤ entry) × (entry < 2147483648)

-- its hop: how much it is above 2 ^ 30, or none for the last one
abbrev pub hop_in_entry : ℕ → Option ℕ
hop_in_entry entry = if entry % 1073741824 == 1073741823 then None else Some (entry % 1073741824)

-- an IPv4 address whose entry has its hop
abbrev pub HasOwnHop : Address → ℕ → Type 0
HasOwnHop x entry = (x.family ≡ Ipv4) × HasHop entry

-- an entry below 2 ^ 30 is how many ranges end below x, or up to four less; one from 2 ^ 31 on is 2 ^ 31 and the place of a node of these ranges
pub record Leads (nodes : List StoredNode) (rs : List HopRange) (x entry : ℕ) : Type 0 where
  pub few : entry < 1073741824 → IsBetween rs x entry (entry + 4)
  pub hop : HasHop entry → hop_in rs x ≡ hop_in_entry entry
  pub many : 2147483648 ≤ entry → (entry - 2147483648 < length nodes) × ((d : StoredNode) → IsBetween rs x (slice_index_or nodes (entry - 2147483648) d).before (slice_index_or nodes (entry - 2147483648) d).after)

-- entries of cells lead each number on that the ranges from `before` to `after` leave, by its cell
abbrev pub AreEntries : (ℕ → ℕ) → ℕ → List StoredNode → List HopRange → ℕ → ℕ → List ℕ → Type 0
AreEntries cell end nodes rs before after entries = (x : ℕ) → x < end → (cell x < length entries) × (IsBetween rs x before after → Leads nodes rs x (slice_index entries (cell x)))

abbrev pub AreNodes : List HopRange → ℕ → List StoredNode → List ℕ → Type 0
AreNodes rs end nodes cells = (k : ℕ) (d : StoredNode) → k < length nodes → AreEntries (λ x. (slice_index_or nodes k d).place + cell_in (slice_index_or nodes k d) x) end nodes rs (slice_index_or nodes k d).before (slice_index_or nodes k d).after cells

-- the first cells of the chunks, ranges, and nodes that divide cells of them
pub record Divided : Type 0 where
  pub tops : List ℕ
  pub ranges : List HopRange
  pub nodes : List StoredNode

-- the ranges of both families
abbrev pub index_of : Divided → Divided → Index
index_of v4 v6 = record { v4 = v4.ranges; v6 = v6.ranges }

abbrev pub tops_of : Family → Divided → Divided → List ℕ
tops_of Ipv4 v4 v6 = v4.tops
tops_of Ipv6 v4 v6 = v6.tops

abbrev pub nodes_of : Family → Divided → Divided → List StoredNode
nodes_of Ipv4 v4 v6 = v4.nodes
nodes_of Ipv6 v4 v6 = v6.nodes

-- the entry leads the address on among the ranges of its family
abbrev pub LeadsAddress : Divided → Divided → Address → ℕ → Type 0
LeadsAddress v4 v6 x entry = Leads (nodes_of x.family v4 v6) (ranges_of x.family (index_of v4 v6)) x.number entry

-- the cell of an address among those of its family
abbrev pub cell_of_address : Divided → Divided → Address → ℕ
cell_of_address v4 v6 x = cell_of (tops_of x.family v4 v6) (head_of (width x.family) x.number)

-- an entry for each address leads it on
pub record AllLead {A : Type 0} (v4 v6 : Divided) (address : A → Address) (addrs : List A) (entries : List ℕ) : Type 0 where
  pub all : length entries ≡ length addrs
  pub each : (k : ℕ) (a : A) (e : ℕ) → k < length addrs → LeadsAddress v4 v6 (address (slice_index_or addrs k a)) (slice_index_or entries k e)

-- the first `count` of the places are those of some of `end` addresses
pub record ArePlaces (end count : ℕ) (places : List ℕ) : Type 0 where
  pub most : count ≤ length places
  pub within : (k d : ℕ) → k < count → slice_index_or places k d < end

-- k is none of the places from index `from` to index `to`
abbrev pub IsUnlisted : ℕ → ℕ → ℕ → List ℕ → Type 0
IsUnlisted k from to places = (j : ℕ) → from ≤ j → j < to → slice_index places j ≡ k → ⊥

-- each address has its hop, unless it is at one of the places from index `from` on
pub record AreFound {A H : Type 0} (hop : A → H) (addrs : List A) (places : List ℕ) (from : ℕ) (hops : List H) : Type 0 where
  pub all : length hops ≡ length addrs
  pub each : (k : ℕ) (a : A) (h : H) → k < length addrs → IsUnlisted k from (length places) places → slice_index_or hops k h ≡ hop (slice_index_or addrs k a)
