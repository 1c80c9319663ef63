use Rattle.std.proofs.Common.{◌≡◌, ◌-◌, ◌==◌, true, take, drop}
use Rattle.std.specs.Net.Reader.{after}
use Rattle.ipnet_addr.specs.AddressReader.{read_units}
use Rattle.ipnet_addr.proofs.parser.read_units.Given as goal

abbrev pub invariant-loop-i : goal.invariant-loop-i
invariant-loop-i l =
    (read_units l.room true l.text ≡ after (take l.i l.units) (read_units (l.room - l.i) (l.i == 0) l.s))
    × (drop l.i l.units ≡ drop l.i l.fn.units)
