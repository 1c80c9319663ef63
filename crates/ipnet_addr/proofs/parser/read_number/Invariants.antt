use Rattle.std.proofs.Common.{◌≡◌, ◌≤◌, take}
use Rattle.std.specs.Str.Parse.{AllDigits, digits_value}
use Rattle.ipnet_addr.proofs.parser.read_number.Given as goal

abbrev pub invariant-loop-b : goal.invariant-loop-b
invariant-loop-b l =
    (l.len ≡ l.b-index) × AllDigits l.radix (take l.len l.s) × (l.value ≡ digits_value l.radix (take l.len l.s)) × (l.value ≤ l.max)
