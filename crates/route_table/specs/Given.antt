-- Results that several calls of a table have in common.
use Rattle.std.specs.Prelude.{◌≡◌, ◌+◌, ◌≤◌, List, [], ◌++◌, length, All, Result, IfOk, IsOk}
use Rattle.ipnet_addr.specs.Addresses.{Family, Ipv4, Ipv6}
use Rattle.ipnet_blocks.specs.Blocks.{Block}
use Rattle.route_laws.specs.Bounds.{lengths_in, pieces_in}
use Rattle.route_laws.specs.Flats.{Piece, IsAdmissible, IsFlat}
use Rattle.route_laws.specs.Networks.{Stored, IsLeaf, IsStoredTable, choices_at}
use Rattle.route_laws.specs.Tables.{Route, IsTable, hop_at}

-- the result is a table without networks
pub record IsEmptied {E : Type 0} (result : Result (List Stored) E) : Type 0 where
  pub networks : IfOk result (λ t. t ≡ [])
  pub table : IfOk result IsStoredTable
  pub ok : IsOk result

-- the network isn't stored before, and contains no other network after
abbrev pub IsNewLeaf : List Stored → List Stored → Block → Type 0
IsNewLeaf before after n = (choices_at before n ≡ []) × IsLeaf after n

-- these are the wanted routes of a table
pub record AreRoutes (M wanted rs : List Route) : Type 0 where
  pub routes : rs ≡ wanted
  pub table : IsTable M

-- the routes of each family
pub record AreFamilies (M v4 v6 : List Route) : Type 0 where
  pub routes : v4 ++ v6 ≡ M
  pub table : IsTable M
  pub ipv4 : All (λ r. r.block.family ≡ Ipv4) v4
  pub ipv6 : All (λ r. r.block.family ≡ Ipv6) v6

-- the flat list of a table: none is shorter, and in each family it has at most one block more than the lengths of the networks
pub record IsFlatOf (M : List Route) (ps : List Piece) : Type 0 where
  pub flat : IsFlat (hop_at M) ps
  pub shortest : (bs : List Block) → IsAdmissible (hop_at M) bs → length ps ≤ length bs
  pub bound : (f : Family) → length (pieces_in f ps) ≤ 1 + lengths_in f M
  pub table : IsTable M
