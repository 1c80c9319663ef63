use Rattle.std.proofs.Common.{◌≡◌, ◌+◌, ◌≤◌, length, drop}
use Rattle.std.specs.Net.Text.{zero_run, longest_zero_run}
use Rattle.ipnet_addr.proofs.printer.longest_zero_run.Given as goal

abbrev pub invariant-loop-i : goal.invariant-loop-i
invariant-loop-i l =
    (l.run ≡ zero_run (drop l.i l.units)) × (l.len ≡ (longest_zero_run (drop l.i l.units)).1)
    × (l.start ≡ l.i + (longest_zero_run (drop l.i l.units)).0)
    × (l.i + l.run ≤ length l.units) × (l.start + l.len ≤ length l.units)
