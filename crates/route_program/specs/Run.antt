-- The effect of a run on the lines of its input.
use Rattle.std.specs.Prelude.{◌≡◌, ℕ, ◌⊎◌, List, [], ◌∷◌, Option, Result, Ok, Err, IsErr}
use Rattle.route_lines.specs.Bytes.{rest}
use Rattle.route_lines.specs.Lines.{lines_in, rest_of}
use Rattle.route_lines.specs.declared.cutter.Line.{Line}
use Rattle.route_lines.specs.declared.cutter.Rest.{Rest}
use Rattle.route_program.specs.declared.counted.Counted.{Counted}
use Rattle.route_program.specs.declared.error.RunError.{RunError}
use Rattle.route_program.specs.declared.error.RunError.TheVariants.{Read}
use Rattle.route_program.specs.Counted.{ReadFault, ReadWell}
use Rattle.route_program.specs.Devices.{HasReturned, MetEnd}

-- `takes` is the effect of receiving a line, by the result
module _ {S W : Type 0} (takes : S → Line → Counted W → Result Unit RunError → S → Counted W → Type 0) where
  -- all lines were received, in order; or those before one of them, and this one was not
  abbrev pub TakesAll : S → List Line → Counted W → Result Unit RunError → S → Counted W → Type 0
  TakesAll a [] old result b new = (result ≡ Ok tt) × (b ≡ a) × (new ≡ old)
  TakesAll a (l ∷ ls) old result c new =
      ((b : S) × (mid : Counted W) × takes a l old (Ok tt) b mid × TakesAll b ls mid result c new)
      ⊎ (IsErr result × takes a l old result c new)

  module _ {R : Type 0} (remaining : R → Option (List ℕ)) where
    -- the end of a run over these bytes: at the end of the input, at a fault of the reader, or at a line that was not accepted
    abbrev pub RunEnds : List ℕ → S → Counted R → Counted W → Result Rest RunError → S → Counted R → Counted W → Type 0
    RunEnds bytes a from old (Ok left) b to new =
        TakesAll a (lines_in bytes) old (Ok tt) b new × (left ≡ rest_of (rest bytes)) × MetEnd remaining from to
    RunEnds bytes a from old (Err e) b to new =
        (TakesAll a (lines_in bytes) old (Ok tt) b new × (e ≡ Read) × ReadFault from to)
        ⊎ (TakesAll a (lines_in bytes) old (Err e) b new × ReadWell from to)

    -- the reader returned some bytes, and the run over them ended in this way
    pub record Runs (a : S) (from : Counted R) (old : Counted W) (result : Result Rest RunError) (b : S) (to : Counted R) (new : Counted W) : Type 0 where
      pub bytes : List ℕ
      pub read : HasReturned remaining from to bytes
      pub ends : RunEnds bytes a from old result b to new
