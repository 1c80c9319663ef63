-- The rest of a flat list, as a walk over the runs of both families.
use Rattle.std.specs.Prelude.{◌≡◌, ℕ, ◌<◌, ◌^◌, List, [], ◌++◌, Option, MatchOption, map}
use Rattle.ipnet_addr.specs.Addresses.{Family, Ipv4, Ipv6, Address, width}
use Rattle.ipnet_blocks.specs.Blocks.{Block}
use Rattle.ipnet.specs.IpSubnets.{ip_cut}
use Rattle.route_laws.specs.Flats.{Piece, flat_of}
use Rattle.route_table.specs.InnerRunning.{AreRuns, hops_left}
use Rattle.route_table.specs.declared.flat.BothRuns.{BothRuns}
use Rattle.route_table.specs.declared.flat.Pieces.{Pieces}

abbrev pub piece_of : ℕ → Block → Piece
piece_of k b = record { block = b; number = k }

-- the pieces that are left of a run
abbrev pub pieces_of : Pieces → List Piece
pieces_of p = map (piece_of p.number) (ip_cut p.blocks)

-- a hop function for each family, joined
abbrev pub hops_in : (ℕ → Option ℕ) → (ℕ → Option ℕ) → Family → ℕ → Option ℕ
hops_in h g Ipv4 x = h x
hops_in h g Ipv6 x = g x

-- the hops that are left in both walks
abbrev pub hops_of : BothRuns → Address → Option ℕ
hops_of w x = hops_in (hops_left w.v4) (hops_left w.v6) x.family x.number

pub record AreBoth (w : BothRuns) : Type 0 where
  pub v4 : AreRuns w.v4
  pub v6 : AreRuns w.v6
  pub ipv4 : w.v4.end < 2 ^ width Ipv4
  pub ipv6 : w.v6.end < 2 ^ width Ipv6

-- the pieces of the first run were returned, or there was none
abbrev pub GivesPieces : BothRuns → Option Pieces → BothRuns → Type 0
GivesPieces w pieces v = MatchOption pieces ((flat_of (hops_of w) ≡ []) × (flat_of (hops_of v) ≡ [])) (λ p. (flat_of (hops_of w) ≡ pieces_of p ++ flat_of (hops_of v)) × (pieces_of p ≡ [] → ⊥))

-- the pieces of the current run, and those of the later runs
abbrev pub pieces_left : Pieces → BothRuns → List Piece
pieces_left p w = pieces_of p ++ flat_of (hops_of w)
