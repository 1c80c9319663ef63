use Rattle.std.proofs.Common.{refl}
use Rattle.ipnet.specs.IpNets.{block}
use Rattle.ipnet.specs.declared.ip_net.IpNet.TheVariants as net
use Rattle.route_table.specs.declared.hop_run.HopRun.TheVariants.{V4, V6}
use Rattle.route_table.proofs.HopRuns.{run_of_block}
use Rattle.route_table.proofs.hop_run.HopRun.of_net.Goals as goal

pub returns-in-V4 : goal.returns-in-V4
returns-in-V4 c = rw c.in-V4.is (λ left. run_of_block (block (net.V4 c.in-V4.net)) (V4 c.first_key.result c.last_key.result c.args.number) left refl c.first_key.ensures c.last_key.ensures)

pub returns-in-V6 : goal.returns-in-V6
returns-in-V6 c = rw c.in-V6.is (λ left. run_of_block (block (net.V6 c.in-V6.net)) (V6 c.first_key-in-V6.result c.last_key-in-V6.result c.args.number) left refl c.first_key-in-V6.ensures c.last_key-in-V6.ensures)
