use Rattle.std.proofs.Common.{◌∙◌, sym}
use Rattle.std.proofs.lemmas.Result.{on_ok_weaker}
use Rattle.least_table.proofs.Lowers.{last_before}
use Rattle.least_table.proofs.planner.Planner.begin.Goals as goal

pub turn-requires-clause-before : goal.turn-requires-clause-before
turn-requires-clause-before g c =
    let h = rw (sym c.take.ensures.value ∙ c.in-Some.is) at c.requires.after.2 in
    last_before h.others (c.in-Some.last, h.hop) (c.args.path.now, c.requires.after.1) (rw h.last at c.requires.after.3)

pub returns-in-Some : goal.returns-in-Some
returns-in-Some g c = on_ok_weaker c.turn.result (λ turns ps hop h d. turns ps (rw (sym c.take.ensures.value ∙ c.in-Some.is) at h).planned) c.turn.ensures
