-- The state of a line cutter, and the lines that it returns.
use Rattle.std.specs.Prelude.{ℕ, ◌==◌, nat_lt, length, take, map, true, List, [], ◌∷◌, ◌++◌, if◌then◌else◌, Option, None, Some, option_to_list}
use Rattle.std.specs.Borrow.{Bor}
use Rattle.route_lines.specs.declared.cutter.Line.{Line}
use Rattle.route_lines.specs.declared.cutter.Line.TheVariants.{Text, TooLong}
use Rattle.route_lines.specs.declared.cutter.Rest.{Rest}
use Rattle.route_lines.specs.declared.cutter.Rest.TheVariants.{Empty, Held}
use Rattle.route_lines.specs.Kept.{Kept}
use Rattle.route_lines.specs.Bytes.{lines}

-- a piece as a line: its bytes, or `TooLong` if it has more than 80
abbrev pub line_of : List ℕ → Line
line_of piece = if nat_lt 80 (length piece) then TooLong else Text (record { items = piece })

-- the line that has these bytes; none means a line that is too long
abbrev pub as_line : Option (Bor (List ℕ)) → Line
as_line (Some text) = Text (record { items = text.now })
as_line None = TooLong

-- the lines of the bytes
abbrev pub lines_in : List ℕ → List Line
lines_in bs = map line_of (lines bs)

-- whether there are any of these bytes after the last line end
abbrev pub rest_of : List ℕ → Rest
rest_of [] = Empty
rest_of (b ∷ bs) = Held

-- the state for these bytes after the last line end
abbrev pub kept_of : List ℕ → Kept
kept_of bs = record { first = take 80 bs; more = nat_lt 80 (length bs) }

-- the result for a byte: a line, if the byte ends one
abbrev pub fed_answer : Kept → ℕ → Option Line
fed_answer k b = if b == 10 then Some (if k.more then TooLong else Text (record { items = k.first })) else None

-- the state after a byte
abbrev pub fed : Kept → ℕ → Kept
fed k b = if b == 10 then kept_of []
    else if length k.first == 80 then record { first = k.first; more = true }
    else record { first = k.first ++ b ∷ []; more = k.more }

-- the results for these bytes, in order
abbrev pub answers : Kept → List ℕ → List Line
answers k [] = []
answers k (b ∷ bs) = option_to_list (fed_answer k b) ++ answers (fed k b) bs

-- the state after these bytes
abbrev pub fed_all : Kept → List ℕ → Kept
fed_all k [] = k
fed_all k (b ∷ bs) = fed_all (fed k b) bs

-- whether there are bytes after the last line end
abbrev pub rest_in : Kept → Rest
rest_in k = if length k.first == 0 then Empty else Held
