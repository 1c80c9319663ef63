-- The theorems about the choices of one block, as statements.
use Rattle.std.specs.Prelude.{◌≡◌, ◌≢◌, ◌⊎◌, ◌↔◌, ◌^◌, ◌<◌, true, false, List, Some, Contains}
use Rattle.route_choices.specs.Choices.{Choice, AreChoices, IsBest, beats, best, is_one_too_many, choices_with, choices_without}
use Rattle.route_choices.specs.Hops.{IsHop}
use Rattle.route_choices.specs.declared.hop.Hop.{Hop}

-- the best choice is the one that no other beats
abbrev pub BestIsUnbeaten : Type 0
BestIsUnbeaten = (cs : List Choice) (c : Choice) → AreChoices cs → (best cs ≡ Some c) ↔ IsBest cs c

-- of two choices of different hops exactly one beats the other
abbrev pub OneBeats : Type 0
OneBeats = (c d : Choice) → (c.hop ≢ d.hop → (beats c d ≡ true) ⊎ (beats d c ≡ true)) × (beats c d ≡ true → beats d c ≡ true → ⊥)

-- `choices_with` has the choice, and those of other hops
abbrev pub ChoicesWith : Type 0
ChoicesWith = (cs : List Choice) (c d : Choice) → Contains (choices_with cs c) d ↔ ((d ≡ c) ⊎ (Contains cs d × (d.hop ≢ c.hop)))

-- `choices_without` has the choices of other hops
abbrev pub ChoicesWithout : Type 0
ChoicesWithout = (cs : List Choice) (h : Hop) (d : Choice) → Contains (choices_without cs h) d ↔ (Contains cs d × (d.hop ≢ h))

-- both keep the order, at most eight choices, and each hop once
abbrev pub StayChoices : Type 0
StayChoices = (cs : List Choice) → AreChoices cs →
    ((c : Choice) → IsHop c.hop → c.pref < 2 ^ 16 → is_one_too_many cs c.hop ≡ false → AreChoices (choices_with cs c))
    × ((h : Hop) → AreChoices (choices_without cs h))

-- choices with the same members are the same list
abbrev pub SameChoices : Type 0
SameChoices = (cs ds : List Choice) → AreChoices cs → AreChoices ds → ((d : Choice) → Contains cs d ↔ Contains ds d) → cs ≡ ds
