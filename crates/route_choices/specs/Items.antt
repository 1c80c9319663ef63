-- The items of an iterator over choices.
use Rattle.std.specs.Prelude.{◌≡◌, ℕ, List, [], ◌∷◌, Option, MatchOption}
use Rattle.route_choices.specs.Choices.{Choice}
use Rattle.route_choices.specs.declared.hop.Hop.{Hop}

-- the first choice was returned, or none was left
abbrev pub GivesChoice : List Choice → Option (Hop × ℕ) → List Choice → Type 0
GivesChoice cs item left = MatchOption item ((cs ≡ []) × (left ≡ [])) (λ c. cs ≡ record { hop = c.0; pref = c.1 } ∷ left)
