use Rattle.std.proofs.Common.{◌≡◌, ◌++◌, take}
use Rattle.route_lines.proofs.phrase.after.Given as goal

abbrev pub invariant-loop-c : goal.invariant-loop-c
invariant-loop-c l = l.s ≡ take l.c-index l.prefix ++ l.rest
