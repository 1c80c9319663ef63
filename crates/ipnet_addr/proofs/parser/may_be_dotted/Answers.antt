use Rattle.std.proofs.Common.{◌≢◌, get_or, arith}
use Rattle.std.proofs.lemmas.Bool.Decides.{nat_tests}
use Rattle.ipnet_addr.proofs.Ipv4Text.{read_ipv4_undotted}
use Rattle.ipnet_addr.proofs.parser.may_be_dotted.Goals as goal

pub returns-in-len4-up : goal.returns-in-len4-up
returns-in-len4-up c = λ e.
    let s = c.args.s.now in
    let one : get_or s 1 0 ≢ 46 = λ h. grind (arith, nat_tests, e, h) in
    let two : get_or s 2 0 ≢ 46 = λ h. grind (arith, nat_tests, e, h) in
    let three : get_or s 3 0 ≢ 46 = λ h. grind (arith, nat_tests, e, h) in
    read_ipv4_undotted s one two three
