use Rattle.std.proofs.Common.{◌≡◌, false, ℕ, ◌<◌, Option, get_or}
use Rattle.route_choices.specs.Choices.{Choice}
use Rattle.route_choices.specs.InnerSlots.{ends_before}
use Rattle.route_choices.proofs.choices.first_beaten.Given as goal

abbrev pub invariant-loop-i : goal.invariant-loop-i
invariant-loop-i l = (k : ℕ) (d : Option Choice) → k < l.i → ends_before (record { hop = l.choice.0; pref = l.choice.1 }) (get_or l.slots k d) ≡ false
