-- Which line a run ended at.
use Rattle.std.proofs.Common.{◌≡◌, ℕ, List, inl, inr}
use Rattle.std.specs.Prelude.{◌⊎◌, Option, Err, IsErrOf}
use Rattle.route_program.specs.declared.counted.Counted.{Counted}
use Rattle.route_program.specs.declared.error.RunError.{RunError}
use Rattle.route_program.specs.declared.error.RunError.TheVariants.{Memory, Read, Write, Line}
use Rattle.route_installer.specs.Installs.{InstallEnds}
use Rattle.routes_fib.specs.Ends.{MeetsNote, MeetsUnfitLine, MeetsWantingLine, ReadsNotes}

pub at_unfit : {R W T : Type 0} (remaining : R → Option (List ℕ)) (contents : W → Option (List ℕ)) (from to : Counted R) (old new : Counted W) (e : RunError)
    → InstallEnds remaining contents from to old new (Err e) → IsErrOf {T = T} (Err e) Line → MeetsUnfitLine remaining from to
at_unfit remaining contents from to old new Memory ends is = absurd (cc)
at_unfit remaining contents from to old new Read ends is = absurd (cc)
at_unfit remaining contents from to old new Write ends is = absurd (cc)
at_unfit remaining contents from to old new Line ends is = (ends.0.meets, ends.0.unfit)

pub at_wanting : {R W T : Type 0} (remaining : R → Option (List ℕ)) (contents : W → Option (List ℕ)) (from to : Counted R) (old new : Counted W) (e : RunError)
    → InstallEnds remaining contents from to old new (Err e) → IsErrOf {T = T} (Err e) Memory → (to ≡ from) ⊎ MeetsWantingLine remaining from to
at_wanting remaining contents from to old new Memory (inl none) is = inl none.0
at_wanting remaining contents from to old new Memory (inr met) is = let m = met.0 in inr (m.meets, m.note, m.is_note, m.wants)
at_wanting remaining contents from to old new Read ends is = absurd (cc)
at_wanting remaining contents from to old new Write ends is = absurd (cc)
at_wanting remaining contents from to old new Line ends is = absurd (cc)

pub at_note : {R W T : Type 0} (remaining : R → Option (List ℕ)) (contents : W → Option (List ℕ)) (from to : Counted R) (old new : Counted W) (e : RunError)
    → InstallEnds remaining contents from to old new (Err e) → IsErrOf {T = T} (Err e) Write → MeetsNote remaining from to ⊎ ReadsNotes remaining from to
at_note remaining contents from to old new Write ends is = let m = ends.0 in inl (m.meets, m.last, m.are_too, m.some)
at_note remaining contents from to old new Memory ends is = absurd (cc)
at_note remaining contents from to old new Read ends is = absurd (cc)
at_note remaining contents from to old new Line ends is = absurd (cc)
