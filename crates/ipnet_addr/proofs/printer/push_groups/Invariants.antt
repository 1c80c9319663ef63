use Rattle.std.proofs.Common.{◌≡◌, ◌+◌, ◌*◌, ◌≤◌, ◌++◌, ◌∷◌, flat_map, take, length}
use Rattle.std.specs.Net.Text.{hex}
use Rattle.ipnet_addr.proofs.printer.push_groups.Given as goal

abbrev pub invariant-loop-unit : goal.invariant-loop-unit
invariant-loop-unit g l =
    (l.out.items ≡ l.initial.out.items ++ flat_map (λ t. 58 ∷ hex t) (take l.unit-index l.rest))
    × (length l.out.items ≤ length l.initial.out.items + 5 * l.unit-index)
