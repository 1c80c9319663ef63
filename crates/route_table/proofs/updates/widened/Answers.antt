use Rattle.std.proofs.Common.{◌≡◌, true, sym, subst}
use Rattle.ipnet_blocks.specs.BitStrings.{begins}
use Rattle.ipnet_blocks.proofs.BitStrings.{take_begins}
use Rattle.prefix_trie.proofs.Covered.{begins_through}
use Rattle.prefix_trie.proofs.Within.{begins_itself}
use Rattle.route_table.proofs.updates.widened.Goals as goal

pub loop-net-init : goal.loop-net-init
loop-net-init g c = begins_itself (g.P.Prefix.bits c.prefix_of-wide.result)

pub loop-net-preserved : goal.loop-net-preserved
loop-net-preserved g c =
    let wide = g.P.Prefix.bits c.loop-net.wide in
    begins_through (g.P.Prefix.bits c.truncated-wide.result) wide (g.P.Prefix.bits c.prefix_of-wide.result) (subst (λ a. begins a wide ≡ true) (sym c.truncated-wide.ensures.bits) (take_begins _ wide)) c.loop-net.invariant
