-- The result of a reader of a phrase.
use Rattle.std.specs.Prelude.{ℕ, List, Option, MatchOption}
use Rattle.route_lines.specs.Phrase.{IsUnspaced}

-- the value that the text spells, or none if it spells none
abbrev pub Gives : {A : Type 0} → (List ℕ → A → Type 0) → List ℕ → Option A → Type 0
Gives {A} Spells text r = MatchOption r ((a : A) → ¬ (Spells text a)) (Spells text)

-- no text that spells a value contains a space
abbrev pub IsFree : {A : Type 0} → (List ℕ → A → Type 0) → Type 0
IsFree {A} Spells = (text : List ℕ) (x : A) → Spells text x → IsUnspaced text
