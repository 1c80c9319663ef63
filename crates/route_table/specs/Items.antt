-- The items of iterators over a table.
use Rattle.std.specs.Prelude.{◌≡◌, ◌≤◌, ◌↔◌, ℕ, Any, List, [], ◌∷◌, ◌++◌, Option, MatchOption, map}
use Rattle.ipnet_addr.specs.Addresses.{Address, Family, Ipv4, Ipv6}
use Rattle.ipnet_blocks.specs.Blocks.{Block, HasAddress}
use Rattle.ipnet.specs.IpNets.{block, network_at}
use Rattle.ipnet.specs.declared.ip_net.IpNet.{IpNet}
use Rattle.route_choices.specs.declared.hop.Hop.{Hop}
use Rattle.route_laws.specs.Tables.{Route, route_of}
use Rattle.route_laws.specs.Flats.{Piece}
use Rattle.route_table.specs.declared.hop_run.HopRun.{HopRun}
use Rattle.route_table.specs.declared.hop_run.HopRun.TheVariants.{V4, V6}

-- the first route was returned, its network without host bits, or none was left
abbrev pub GivesRoute : List Route → Option (IpNet × Hop × ℕ) → List Route → Type 0
GivesRoute rs item left = MatchOption item ((rs ≡ []) × (left ≡ [])) (λ p. (rs ≡ route_of p.0 p.1 p.2 ∷ left) × (p.0 ≡ network_at (block p.0)))

-- the first block was returned as a network without host bits, or none was left
abbrev pub GivesBlock : List Block → Option IpNet → List Block → Type 0
GivesBlock bs item left = MatchOption item ((bs ≡ []) × (left ≡ [])) (λ n. (bs ≡ block n ∷ left) × (n ≡ network_at (block n)))

-- the first piece was returned, its block as a network without host bits, or none was left
abbrev pub GivesPiece : List Piece → Option (IpNet × ℕ) → List Piece → Type 0
GivesPiece ps item left = MatchOption item ((ps ≡ []) × (left ≡ [])) (λ p. (ps ≡ record { block = block p.0; number = p.1 } ∷ left) × (p.0 ≡ network_at (block p.0)))

-- the family of a run's addresses
abbrev pub run_family : HopRun → Family
run_family (V4 a b k) = Ipv4
run_family (V6 a b k) = Ipv6

-- the number of the first address of a run
abbrev pub run_first : HopRun → ℕ
run_first (V4 a b k) = a
run_first (V6 a b k) = a

-- the number of the last address of a run
abbrev pub run_last : HopRun → ℕ
run_last (V4 a b k) = b
run_last (V6 a b k) = b

-- the hop of a run
abbrev pub run_hop : HopRun → ℕ
run_hop (V4 a b k) = k
run_hop (V6 a b k) = k

-- the address is in the run
abbrev pub IsInRun : HopRun → Address → Type 0
IsInRun r x = (x.family ≡ run_family r) × (run_first r ≤ x.number) × (x.number ≤ run_last r)

-- the first pieces together have the addresses of the run, and its hop
pub record BeginsWithRun (ps : List Piece) (r : HopRun) (left : List Piece) : Type 0 where
  pub some : run_first r ≤ run_last r
  pub blocks : List Block
  pub pieces : ps ≡ map (λ b. record { block = b; number = run_hop r }) blocks ++ left
  pub addresses : (x : Address) → Any (λ b. HasAddress b x) blocks ↔ IsInRun r x

-- the first run was returned, or none was left
abbrev pub GivesHopRun : List Piece → Option HopRun → List Piece → Type 0
GivesHopRun ps item left = MatchOption item ((ps ≡ []) × (left ≡ [])) (λ r. BeginsWithRun ps r left)
