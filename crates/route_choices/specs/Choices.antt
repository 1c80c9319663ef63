-- The choices of one block: hops with preferences, best first.
use Rattle.std.specs.Prelude.{◌≡◌, ◌≢◌, ℕ, ◌<◌, ◌≤◌, ◌^◌, ◌==◌, Bool, true, false, not, ◌&&◌, ◌||◌, nat_lt, List, [], ◌∷◌, ◌++◌, Option, Some, None, All, AllPairs, Contains, length, filter}
use Rattle.std.specs.List.{list_any}
use Rattle.route_choices.specs.Hops.{IsHop}
use Rattle.route_choices.specs.declared.hop.Hop.{Hop}
use Rattle.route_choices.specs.declared.hop.Hop.TheVariants.{Number, Drop}

-- a hop with its preference
pub record Choice : Type 0 where
  pub hop : Hop
  pub pref : ℕ

-- the test that two hops are the same
abbrev pub same_hop : Hop → Hop → Bool
same_hop (Number j) (Number k) = j == k
same_hop (Number j) Drop = false
same_hop Drop (Number k) = false
same_hop Drop Drop = true

-- among equal preferences, a smaller number comes first, and `drop` last
abbrev pub hop_before : Hop → Hop → Bool
hop_before (Number j) (Number k) = nat_lt j k
hop_before (Number j) Drop = true
hop_before Drop k = false

-- the choice with the greater preference is the better one
abbrev pub beats : Choice → Choice → Bool
beats c d = nat_lt d.pref c.pref || (c.pref == d.pref && hop_before c.hop d.hop)

-- the most routes of a network
abbrev pub most_choices : ℕ
most_choices = 8

-- the preference of a route that is given without one
abbrev pub default_preference : ℕ
default_preference = 100

-- at most eight choices, best first, each hop once
pub record AreChoices (cs : List Choice) : Type 0 where
  pub few : length cs ≤ most_choices
  pub hops : All (λ c. IsHop c.hop) cs
  pub prefs : All (λ c. c.pref < 2 ^ 16) cs
  pub best_first : AllPairs (λ c d. beats c d ≡ true) cs
  pub once : AllPairs (λ c d. c.hop ≢ d.hop) cs

-- the first choice: no other beats it if the list is ordered best first
abbrev pub best : List Choice → Option Choice
best [] = None
best (c ∷ cs) = Some c

-- a member that no other beats
pub record IsBest (cs : List Choice) (c : Choice) : Type 0 where
  pub member : Contains cs c
  pub unbeaten : (d : Choice) → Contains cs d → beats d c ≡ false

-- the hop of the best choice, or `Drop` if there is none; a stored network always has one
abbrev pub best_hop : List Choice → Hop
best_hop [] = Drop
best_hop (c ∷ cs) = c.hop

-- the preference of the best choice, or 0 if there is none
abbrev pub best_preference : List Choice → ℕ
best_preference [] = 0
best_preference (c ∷ cs) = c.pref

-- the test that there is no choice
abbrev pub has_none : List Choice → Bool
has_none [] = true
has_none (c ∷ cs) = false

-- the test that a choice has this hop
abbrev pub holds_hop : List Choice → Hop → Bool
holds_hop cs h = list_any (λ d. same_hop d.hop h) cs

-- the choices with other hops than this one, in the same order
abbrev pub choices_without : List Choice → Hop → List Choice
choices_without cs h = filter (λ d. not (same_hop d.hop h)) cs

-- eight other hops are stored already
abbrev pub is_one_too_many : List Choice → Hop → Bool
is_one_too_many cs h = length (choices_without cs h) == most_choices

-- the choice inserted among those of other hops
abbrev pub choices_with : List Choice → Choice → List Choice
choices_with cs c = filter (λ d. beats d c) (choices_without cs c.hop) ++ c ∷ filter (λ d. beats c d) (choices_without cs c.hop)
