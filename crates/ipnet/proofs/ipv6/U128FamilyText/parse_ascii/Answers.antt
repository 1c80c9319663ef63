use Rattle.std.proofs.Common.{sym}
use Rattle.ipnet.proofs.Ipv6Networks.{v6_read, v6_not_read}
use Rattle.ipnet.proofs.ipv6.U128FamilyText.parse_ascii.Goals as goal

pub returns-in-Some : goal.returns-in-Some
returns-in-Some c = rw c.new_assert.ensures (v6_read _ c.in-Some.addr c.in-Some.len (sym c.in-Some.ensures.value))

pub returns-in-None : goal.returns-in-None
returns-in-None c = v6_not_read _ (sym c.in-None.ensures.value)
