-- Choices as they are stored: one in each slot, and free slots after the last choice.
use Rattle.std.specs.Prelude.{ℕ, zero, suc, Bool, true, List, [], ◌∷◌, Option, Some, None}
use Rattle.route_choices.specs.Choices.{Choice, beats, same_hop}
use Rattle.route_choices.specs.declared.slot.Kind.{Kind}
use Rattle.route_choices.specs.declared.slot.Kind.TheVariants.{Free, Drop as OfDrop, Number as OfNumber}
use Rattle.route_choices.specs.declared.hop.Hop.{Hop}
use Rattle.route_choices.specs.declared.hop.Hop.TheVariants.{Number, Drop}

-- the content of a slot of a kind
abbrev pub slot_in : Kind → ℕ → ℕ → Option Choice
slot_in Free k p = None
slot_in OfDrop k p = Some (record { hop = Drop; pref = p })
slot_in OfNumber k p = Some (record { hop = Number k; pref = p })

-- the choice given by a pair
abbrev pub given : Option (Hop × ℕ) → Option Choice
given None = None
given (Some c) = Some (record { hop = c.0; pref = c.1 })

-- the test that a slot is free or has this hop
abbrev pub ends_at : Hop → Option Choice → Bool
ends_at h None = true
ends_at h (Some d) = same_hop d.hop h

-- the test that a slot is free or has a worse choice
abbrev pub ends_before : Choice → Option Choice → Bool
ends_before c None = true
ends_before c (Some d) = beats c d

-- the choices of the slots up to the first free one
abbrev pub filled : List (Option Choice) → List Choice
filled [] = []
filled (None ∷ xs) = []
filled (Some c ∷ xs) = c ∷ filled xs

-- n slots with these choices; the other slots are free
abbrev pub padded : ℕ → List Choice → List (Option Choice)
padded zero cs = []
padded (suc n) [] = None ∷ padded n []
padded (suc n) (c ∷ cs) = Some c ∷ padded n cs
