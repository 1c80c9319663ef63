-- Ranges of addresses: the numbers from one end to the other, and the ends after a call.
use Rattle.std.specs.Prelude.{◌≡◌, ℕ, zero, suc, ◌+◌, ◌-◌, ◌^◌, ◌<◌, ◌≤◌, ◌⊎◌, nat_lt, ◌==◌, if◌then◌else◌, Option, List, [], MatchOption, Contains, All}
use Rattle.std.specs.List.{range_with_len}
use Rattle.ipnet_addr.specs.Addresses.{Family, width}

-- the numbers of the two ends of a range
pub record Ends : Type 0 where
  pub start : ℕ
  pub end : ℕ

-- both are numbers in the range of this family
pub record AreEnds (family : Family) (e : Ends) : Type 0 where
  pub start_in_range : e.start < 2 ^ width family
  pub end_in_range : e.end < 2 ^ width family

-- the numbers from start to end, none if start is above end
abbrev pub numbers : Ends → List ℕ
numbers e = range_with_len e.start (e.end + 1 - e.start)

-- the ends after one call from the front: an empty range is unchanged, and after the last number they are 1 and 0
unfoldable pub after_front : Ends → Ends
after_front e = if nat_lt e.end e.start then e else (if e.start == e.end then record { start = 1; end = 0 } else record { start = e.start + 1; end = e.end })

-- the ends after one call from the back
unfoldable pub after_back : Ends → Ends
after_back e = if nat_lt e.end e.start then e else (if e.start == e.end then record { start = 1; end = 0 } else record { start = e.start; end = e.end - 1 })

-- ordered by start, then by end
abbrev pub IsEndsBefore : Ends → Ends → Type 0
IsEndsBefore a b = (a.start < b.start) ⊎ ((a.start ≡ b.start) × (a.end < b.end))

-- f applied n times
unfoldable pub times : {A : Type 0} → ℕ → (A → A) → A → A
times zero f x = x
times (suc n) f x = times n f (f x)

-- the least number of a list, if it has any
abbrev pub IsMinimum : List ℕ → Option ℕ → Type 0
IsMinimum xs r = MatchOption r (xs ≡ []) (λ n. Contains xs n × All (λ x. n ≤ x) xs)

-- the greatest number of a list, if it has any
abbrev pub IsMaximum : List ℕ → Option ℕ → Type 0
IsMaximum xs r = MatchOption r (xs ≡ []) (λ n. Contains xs n × All (λ x. x ≤ n) xs)
