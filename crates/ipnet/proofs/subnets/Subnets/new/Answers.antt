use Rattle.std.proofs.Common.{◌^◌, ap, arith}
use Rattle.ipnet_blocks.proofs.Cuts.{cut_is_exact}
use Rattle.ipnet.proofs.subnets.Subnets.new.Goals as goal

pub returns-clause-blocks : goal.returns-clause-blocks
returns-clause-blocks g c = rw (← c.of_addr-start.ensures, ← c.of_addr-end.ensures) (cut_is_exact g.N.AddressInt.family _ (omega (arith, ap (λ n. 2 ^ n) g.met.N.AddressInt.sized)) c.requires)
