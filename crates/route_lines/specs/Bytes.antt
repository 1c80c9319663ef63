-- Bytes as lines: the pieces before each line end, and the rest after the last one.
use Rattle.std.specs.Prelude.{ℕ, ◌==◌, List, [], ◌∷◌, if◌then◌else◌}

-- the byte is put in front of the first piece, if there is one
abbrev pub onto_first : ℕ → List (List ℕ) → List (List ℕ)
onto_first b [] = []
onto_first b (piece ∷ pieces) = (b ∷ piece) ∷ pieces

-- the pieces that end at a byte 10, each without this byte
abbrev pub lines : List ℕ → List (List ℕ)
lines [] = []
lines (b ∷ bs) = if b == 10 then [] ∷ lines bs else onto_first b (lines bs)

-- the first list if there are no pieces, else the second
abbrev pub if_no_piece : List (List ℕ) → List ℕ → List ℕ → List ℕ
if_no_piece [] xs ys = xs
if_no_piece (piece ∷ pieces) xs ys = ys

-- the bytes after the last byte 10; all bytes if there is none
abbrev pub rest : List ℕ → List ℕ
rest [] = []
rest (b ∷ bs) = if_no_piece (lines (b ∷ bs)) (b ∷ bs) (rest bs)
