-- The number of lines that a receiver counts.
use Rattle.std.proofs.Common.{◌≡◌, ℕ, suc, ◌-◌, ◌^◌, min, ⊎_elim, List, [], ◌∷◌, length, map, Option, Result, Ok, ap, refl, ◌∙◌, arith}
use Rattle.route_lines.specs.Bytes.{lines}
use Rattle.route_lines.specs.Lines.{line_of, lines_in}
use Rattle.route_lines.specs.declared.cutter.Line.{Line}
use Rattle.route_lines.specs.declared.cutter.Rest.{Rest}
use Rattle.route_program.specs.declared.counted.Counted.{Counted}
use Rattle.route_program.specs.declared.error.RunError.{RunError}
use Rattle.route_program.specs.Counted.{MoreByIsMin, more_by, one_more}
use Rattle.route_program.specs.Devices.{HasReadAll}
use Rattle.route_program.specs.Run.{Runs, TakesAll}
use Rattle.embedder.specs.declared.line_count.LineCount.{LineCount}

length_lines : (pieces : List (List ℕ)) → length (map line_of pieces) ≡ length pieces
length_lines [] = refl
length_lines (p ∷ ps) = ap (λ n. suc n) (length_lines ps)

module _ {W : Type 0} where
  abbrev pub Takes : LineCount → Line → Counted W → Result Unit RunError → LineCount → Counted W → Type 0
  Takes a line old result b new = (result ≡ Ok tt) × (b.lines ≡ one_more a.lines)

  -- each line that was received is counted
  all_counted : (ls : List Line) (a b : LineCount) (old new : Counted W) → TakesAll Takes a ls old (Ok tt) b new → b.lines ≡ more_by (length ls) a.lines
  all_counted [] a b old new p = ap (λ (c : LineCount). c.lines) p.1
  all_counted (l ∷ ls) a c old new p = ⊎_elim (λ q. all_counted ls q.0 c q.1 new q.3 ∙ ap (more_by (length ls)) q.2.1) (λ q. absurd (let e = q.0 in cc)) p

  -- a run counts the lines of all bytes
  pub run_counts : {R : Type 0} (remaining : R → Option (List ℕ)) (a b : LineCount) (from to : Counted R) (old new : Counted W) (left : Rest) → a.lines ≡ 0 → MoreByIsMin
      → Runs Takes remaining a from old (Ok left) b to new → HasReadAll remaining (λ bytes. b.lines ≡ min (length (lines bytes)) (2 ^ 64 - 1)) from to
  run_counts remaining a b from to old new left none sums r =
      let counted = all_counted (lines_in r.bytes) a b old new r.ends.0 in
      let from_none = ap (more_by (length (lines_in r.bytes))) none in
      let sum = sums (length (lines_in r.bytes)) 0 (omega arith) in
      let same = length_lines (lines r.bytes) in
      (record { bytes = r.bytes; read = r.read; holds = omega (arith, counted, from_none, sum, same) }, r.ends.2)
