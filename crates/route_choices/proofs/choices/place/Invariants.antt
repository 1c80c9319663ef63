use Rattle.std.proofs.Common.{◌≡◌, false, ℕ, ◌<◌, Option, get_or}
use Rattle.route_choices.specs.Choices.{Choice}
use Rattle.route_choices.specs.InnerSlots.{ends_at}
use Rattle.route_choices.proofs.choices.place.Given as goal

abbrev pub invariant-loop-i : goal.invariant-loop-i
invariant-loop-i l = (k : ℕ) (d : Option Choice) → k < l.i → ends_at l.hop (get_or l.slots k d) ≡ false
