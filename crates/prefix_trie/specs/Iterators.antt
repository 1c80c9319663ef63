-- The results of walks and iterators.
use Rattle.std.specs.Prelude.{◌≡◌, List, [], ◌∷◌, Bool, IsTrue, Option, MatchOption}

-- the first entry was returned, its value as contracts see it, or nothing was left
abbrev pub GivesFirst : {X G : Type 0} → (G → X) → List (List Bool × X) → Option (List Bool × G) → List (List Bool × X) → Type 0
GivesFirst value es r fs = MatchOption r ((es ≡ []) × (fs ≡ [])) (λ p. es ≡ (p.0, value p.1) ∷ fs)

-- the first item was returned, or nothing was left
abbrev pub GivesItem : {S I : Type 0} → (List S → I → List S → Type 0) → List S → Option I → List S → Type 0
GivesItem is_first es r fs = MatchOption r ((es ≡ []) × (fs ≡ [])) (λ p. is_first es p fs)

module _ {K : Type 0} (fits : K → Bool) (bits : K → List Bool) (of_bits : List Bool → K) where
  -- the key has the bits of the first entry, and its length fits
  abbrev pub IsFirstKey : List (List Bool) → K → List (List Bool) → Type 0
  IsFirstKey ss k ts = (ss ≡ bits k ∷ ts) × (k ≡ of_bits (bits k)) × IsTrue (fits k)

  -- the same for a key with its value
  abbrev pub IsFirstEntry : {X G : Type 0} → (G → X) → List (List Bool × X) → K × G → List (List Bool × X) → Type 0
  IsFirstEntry value es p fs = (es ≡ (bits p.0, value p.1) ∷ fs) × (p.0 ≡ of_bits (bits p.0)) × IsTrue (fits p.0)
