use Rattle.std.proofs.Common.{arith}
use Rattle.ipnet_blocks.proofs.SubnetBlocks.{two_at_least}
use Rattle.ipnet.proofs.ipv4.Ipv4Net.hosts.Goals as goal

pub overflow_add-first : goal.overflow_add-first
overflow_add-first c =
    let two = two_at_least c.args.self.now.len (omega arith) in
    let first = c.network.ensures in
    let last = c.broadcast.ensures in
    record { fits = omega arith }

pub overflow_sub-last : goal.overflow_sub-last
overflow_sub-last c =
    let two = two_at_least c.args.self.now.len (omega arith) in
    let last = c.broadcast.ensures in
    omega arith
