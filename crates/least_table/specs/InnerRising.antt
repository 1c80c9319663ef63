-- Ascending lists of hops: no hop first, and then numbers.
use Rattle.std.specs.Prelude.{◌≡◌, ℕ, Bool, true, false, ◌&&◌, ◌||◌, nat_lt, List, [], ◌∷◌, ◌++◌, Option, Some, None, ⊤}
use Rattle.least_table.specs.HopSets.{holds}

abbrev pub is_less : Option ℕ → Option ℕ → Bool
is_less None None = false
is_less None (Some k) = true
is_less (Some j) None = false
is_less (Some j) (Some k) = nat_lt j k

abbrev pub IsLessAll : Option ℕ → List (Option ℕ) → Type 0
IsLessAll x [] = ⊤
IsLessAll x (y ∷ ys) = (is_less x y ≡ true) × IsLessAll x ys

abbrev pub IsRising : List (Option ℕ) → Type 0
IsRising [] = ⊤
IsRising (x ∷ xs) = IsLessAll x xs × IsRising xs

-- cs ascends and has the hops in both lists
pub record AreCommon (as' bs cs : List (Option ℕ)) : Type 0 where
  pub rising : IsRising cs
  pub same : (k : Option ℕ) → holds cs k ≡ (holds as' k && holds bs k)

-- cs ascends and has the hops in at least one of the lists
pub record AreAll (as' bs cs : List (Option ℕ)) : Type 0 where
  pub rising : IsRising cs
  pub same : (k : Option ℕ) → holds cs k ≡ (holds as' k || holds bs k)

-- `out` is done, and as' and bs are left
pub record CommonLeft (low high out as' bs : List (Option ℕ)) : Type 0 where
  pub low_rises : IsRising (out ++ as')
  pub high_rises : IsRising (out ++ bs)
  pub same : (k : Option ℕ) → (holds low k && holds high k) ≡ (holds out k || (holds as' k && holds bs k))

pub record AllLeft (low high out as' bs : List (Option ℕ)) : Type 0 where
  pub low_rises : IsRising (out ++ as')
  pub high_rises : IsRising (out ++ bs)
  pub same : (k : Option ℕ) → (holds low k || holds high k) ≡ (holds out k || (holds as' k || holds bs k))
