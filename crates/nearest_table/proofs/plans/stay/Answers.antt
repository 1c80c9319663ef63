use Rattle.std.proofs.lemmas.Option.{IfSome_then}
use Rattle.nearest_table.specs.InnerPlans.{IsJoined, tree_of}
use Rattle.nearest_table.proofs.Stays.{idle_idle, idle_one, one_idle, one_one}
use Rattle.nearest_table.proofs.plans.stay.Goals as goal

pub returns-in-Idle-Idle : goal.returns-in-Idle-Idle
returns-in-Idle-Idle c = rw (c.in-Idle-Idle.is-0, c.in-Idle-Idle.is-1) (idle_idle, tt)

pub returns-in-Idle-One : goal.returns-in-Idle-One
returns-in-Idle-One c = rw (c.in-Idle-One.is-0, c.in-Idle-One.is-1) (idle_one c.in-Idle-One.hop, (tt, tt))

pub returns-in-One-Idle : goal.returns-in-One-Idle
returns-in-One-Idle c = rw (c.in-One-Idle.is-0, c.in-One-Idle.is-1) (one_idle c.in-One-Idle.hop, (tt, tt))

pub returns-in-One-One : goal.returns-in-One-One
returns-in-One-One c = IfSome_then c.one.result {Q = IsJoined (tree_of c.args.low.now) (tree_of c.args.high.now)} c.one.ensures
    (λ p is. rw (c.in-One-One.is-0, c.in-One-One.is-1, ← is.0, is.1) (one_one c.in-One-One.hop, (tt, tt)))
