-- Sequences of calls of a range of addresses, and the numbers that they return.
use Rattle.std.specs.Prelude.{ℕ, ◌+◌, Option, List, [], ◌∷◌, slice_get, reverse}
use Rattle.std.specs.List.{cons_option}
use Rattle.ipnet_addr.specs.Ranges.{Ends, numbers, after_front, after_back, times}

-- the four calls that return numbers
pub data Call : Type 0 where
  Next NextBack : Call
  Nth NthBack : ℕ → Call

-- the result of a call
abbrev pub answer_of : Call → Ends → Option ℕ
answer_of Next e = slice_get (numbers e) 0
answer_of NextBack e = slice_get (reverse (numbers e)) 0
answer_of (Nth n) e = slice_get (numbers e) n
answer_of (NthBack n) e = slice_get (reverse (numbers e)) n

-- the ends after the call
abbrev pub ends_after : Call → Ends → Ends
ends_after Next e = after_front e
ends_after NextBack e = after_back e
ends_after (Nth n) e = times (n + 1) after_front e
ends_after (NthBack n) e = times (n + 1) after_back e

-- the numbers that these calls return, in order
abbrev pub given : List Call → Ends → List ℕ
given [] e = []
given (c ∷ cs) e = cons_option (answer_of c e) (given cs (ends_after c e))
