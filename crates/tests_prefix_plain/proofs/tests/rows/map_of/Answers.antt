use Rattle.std.proofs.Common.{◌≡◌, ℕ, ◌++◌, ◌∙◌, length, subst, sym}
use Rattle.std.specs.Prelude.{IfOk, IsTrue, nat_le}
use Rattle.std.specs.List.{All}
use Rattle.std.specs.Vec.Iter.{into_iter_items}
use Rattle.std.proofs.Math.Seq.{take-append_seam}
use Rattle.std.proofs.lemmas.List.Elements.{All-take}
use Rattle.tests_prefix_plain.proofs.Runs.{taken_front}
use Rattle.tests_prefix_plain.proofs.tests.rows.map_of.Goals as goal

pub try_from_iter-requires : goal.try_from_iter-requires
try_from_iter-requires g c it h =
    let Fits = λ (e : (ℕ × ℕ) × ℕ). IsTrue (nat_le e.0.1 32) in
    let e : c.expect.result.items ≡ c.args.entries = subst (λ r. IfOk r (λ v. v.items ≡ c.args.entries)) c.expect.ensures c.from_array.ensures.items in
    (tt, tt, λ xs t y. rw take-append_seam at (All-take Fits (length xs) (xs ++ into_iter_items t) (subst (All Fits) (sym e ∙ (sym h.0 ∙ taken_front it xs t y)) c.requires)))
