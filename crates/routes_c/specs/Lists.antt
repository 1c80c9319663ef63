-- The stored lists of pieces and of routes: how they are made, and read.
use Rattle.std.specs.Prelude.{◌≡◌, ◌≢◌, ◌⊎◌, ◌<◌, ◌≤◌, ℕ, List, map}
use Rattle.route_laws.specs.Flats.{Piece as FlatPiece, flat_of}
use Rattle.route_laws.specs.Networks.{Stored, routes_of}
use Rattle.route_laws.specs.Tables.{Route as TableRoute, hop_at}
use Rattle.routes_c.specs.Handles.{GoesOn, Keeps, session_of}
use Rattle.routes_c.specs.RouteLists.{Shown}
use Rattle.routes_c.specs.Shown.{piece_shown}
use Rattle.routes_c.specs.declared.handle.Handle.{Handle}
use Rattle.routes_c.specs.declared.last_lists.LastLists.{LastLists}
use Rattle.routes_c.specs.declared.session.Session.{Session}

-- at 0 this is the list of pieces, and else the list is unchanged. The routes are unchanged
pub record MakesPieces (k l : LastLists) (ps : List FlatPiece) (code : ℕ) : Type 0 where
  pub made : code ≡ 0 → l.pieces.items ≡ map piece_shown ps
  pub kept : code ≢ 0 → l.pieces ≡ k.pieces
  pub routes : l.routes ≡ k.routes

-- at 0 the list of routes has this property, in the layout of C, and else the list is unchanged. The pieces are unchanged
pub record MakesRoutes (k l : LastLists) (P : List TableRoute → Type 0) (code : ℕ) : Type 0 where
  pub made : code ≡ 0 → Shown P l.routes.items
  pub kept : code ≢ 0 → l.routes ≡ k.routes
  pub pieces : l.pieces ≡ k.pieces

-- a list of a table: 0 if it was made, 2 if an allocation fails. All else is unchanged
pub record Makes (s t : Session) (list : LastLists → LastLists → ℕ → Type 0) (code : ℕ) : Type 0 where
  pub answers : (code ≡ 0) ⊎ (code ≡ 2)
  pub made : list s.lists t.lists code
  pub table : t.table ≡ s.table
  pub reply : t.reply ≡ s.reply

-- the flat list of the table's hops
abbrev pub Flattens : Session → Session → ℕ → Type 0
Flattens s t code = Makes s t (λ k l. MakesPieces k l (flat_of (hop_at (routes_of s.table)))) code

-- a list of routes
abbrev pub Lists : Session → Session → (List TableRoute → Type 0) → ℕ → Type 0
Lists s t P code = Makes s t (λ k l. MakesRoutes k l P) code

-- a call that lists routes of a table; 3 if there is no table
abbrev pub ListsOf : Handle → Handle → (List Stored → List TableRoute → Type 0) → ℕ → Type 0
ListsOf old new P code = GoesOn session_of old new (code ≡ 3) (λ s t. Lists s t (P s.table) code)

-- the same for a network of this length; 6 if it is above `most`
abbrev pub ListsAt : ℕ → ℕ → Handle → Handle → (List Stored → List TableRoute → Type 0) → ℕ → Type 0
ListsAt most len old new P code = (most < len → (code ≡ 6) × Keeps old new) × (len ≤ most → ListsOf old new P code)
