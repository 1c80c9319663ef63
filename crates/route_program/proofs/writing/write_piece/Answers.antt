use Rattle.std.proofs.Common.{◌≡◌, ℕ, true, false, not, ◌&&◌, ◌||◌, eqb, nat_lt, arith, List, ◌++◌, length, take, refl, sym, ap, ◌∙◌, take-append-drop, ne_eqb}
use Rattle.std.proofs.lemmas.List.{length-take-le, take_rest}
use Rattle.std.proofs.lemmas.Bool.Decides.{nat_tests}
use Rattle.route_program.proofs.WriteLines.{Told-more}
use Rattle.route_program.proofs.Written.{has_some}
use Rattle.route_program.proofs.writing.write_piece.Goals as goal

pub loop-left-preserved : goal.loop-left-preserved
loop-left-preserved g c =
    let left = c.loop-left.left.now in
    let n = c.in-Ok.n in
    let took : eqb n 0 ≡ false = ne_eqb n 0 c.if-n-eq0.false in
    let some : nat_lt 0 n ≡ true = grind (arith, nat_tests) in
    let has = has_some (take n left) (omega (arith, length-take-le n left (omega (arith, c.in-Ok.ensures.bound)))) in
    Told-more g.W.Write.contents (λ (bytes : List ℕ). bytes) _ c.loop-left.writer c.write.new.self _ left _ (take n left)
    (take n left)
    c.loop-left.invariant (sym (take-append-drop n left) ∙ ap (λ l. take n left ++ l) (sym (take_rest left n))) refl (record {
      appended = c.in-Ok.ensures.bytes;
      faults = rw took at c.in-Ok.ensures.faults;
      flushes = c.in-Ok.ensures.flushes;
      waits = c.in-Ok.ensures.waiting ∙ ap (λ b. b || c.loop-left.writer.waiting) (some ∙ sym has);
      fails = c.in-Ok.ensures.failing ∙ ap (λ b. b && nat_lt 0 (length left)) took ∙ ap (λ b. not b && c.loop-left.writer.failing) (sym has);
    })
