-- Pieces without their first bits, and their order.
use Rattle.std.specs.Prelude.{◌≡◌, ℕ, suc, All, Bool, true, false, List, [], ◌∷◌, map, drop}
use Rattle.ipnet_blocks.specs.BitStrings.{begins}

-- all addresses of a come before all addresses of b: at the first bit that differs, a has 0 and b has 1
abbrev pub before : List Bool → List Bool → Bool
before [] b = false
before (x ∷ a) [] = false
before (false ∷ a) (false ∷ b) = before a b
before (false ∷ a) (true ∷ b) = true
before (true ∷ a) (false ∷ b) = false
before (true ∷ a) (true ∷ b) = before a b

-- the pieces without their first n bits
abbrev pub beyond : ℕ → List (List Bool × ℕ) → List (List Bool × ℕ)
beyond n ps = map (λ p. (drop n p.0, p.1)) ps

-- every piece begins with these bits
abbrev pub AllShare : List Bool → List (List Bool × ℕ) → Type 0
AllShare ds ps = All (λ p. begins ds p.0 ≡ true) ps

-- the number of bits that two strings have in common at their start
abbrev pub shared : List Bool → List Bool → ℕ
shared (false ∷ s) (false ∷ t) = suc (shared s t)
shared (true ∷ s) (true ∷ t) = suc (shared s t)
shared _ _ = 0
