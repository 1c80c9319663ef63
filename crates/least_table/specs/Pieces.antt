-- Lists of blocks with one hop each, as bit strings.
use Rattle.std.specs.Prelude.{◌≡◌, ℕ, Bool, false, cond, List, [], ◌∷◌, map, Option, Some, None, AllPairs}
use Rattle.std.specs.declared.cmp.Ordering.TheVariants.{Less}
use Rattle.ipnet_blocks.specs.BitStrings.{bits_cmp, begins}

-- each piece comes before every later one and doesn't contain it
abbrev pub AreDisjoint : List (List Bool × ℕ) → Type 0
AreDisjoint = AllPairs (λ p q. (bits_cmp p.0 q.0 ≡ Less) × (begins p.0 q.0 ≡ false))

-- the hop of the piece that contains x, or none if no piece does
abbrev pub piece_hop : List (List Bool × ℕ) → List Bool → Option ℕ
piece_hop [] x = None
piece_hop (p ∷ ps) x = cond (begins p.0 x) (Some p.1) (piece_hop ps x)

-- the prefixes as bit strings
abbrev pub strings : {P K : Type 0} → (P → List Bool) → List (P × K) → List (List Bool × K)
strings bits ps = map (λ p. (bits p.0, p.1)) ps
