use Rattle.std.proofs.Common.{ap}
use Rattle.ipnet.specs.declared.ip_net.IpNet.TheVariants.{V4, V6}
use Rattle.route_lines.proofs.phrase.IpNetPhrase.read.Goals as goal

pub returns-in-Ok : goal.returns-in-Ok
returns-in-Ok c = (V6 c.in-Ok.net, c.in-Ok.ensures, ap V6 c.trunc.ensures.value)

pub returns-in-Ok-parse_ascii : goal.returns-in-Ok-parse_ascii
returns-in-Ok-parse_ascii c = (V4 c.in-Ok-parse_ascii.net, c.in-Ok-parse_ascii.ensures, ap V4 c.trunc-in-Ok-parse_ascii.ensures.value)

pub returns-in-Ok-parse_ascii-2 : goal.returns-in-Ok-parse_ascii-2
returns-in-Ok-parse_ascii-2 c = (V6 c.in-Ok-parse_ascii-2.net, c.in-Ok-parse_ascii-2.ensures, ap V6 c.trunc-in-Ok-parse_ascii-2.ensures.value)
