use Rattle.std.proofs.Common.{◌∙◌, Some, ap, arith}
use Rattle.ipnet_blocks.specs.Cuts.{subnets}
use Rattle.ipnet_blocks.specs.Networks.{Network}
use Rattle.ipnet_addr.proofs.Progress.{progress_first}
use Rattle.ipnet_blocks.proofs.Cuts.{next_none, next_some}
use Rattle.ipnet.proofs.subnets.SubnetsIterator.next.Goals as goal

pub returns-then-start-end-clause-steps : goal.returns-then-start-end-clause-steps
returns-then-start-end-clause-steps g c = rw (← c.self.view_is) (next_none g.N.AddressInt.family _ (rw (c.to_bits-start.ensures.value, c.to_bits-end.ensures.value) at c.if-start-end.true))

pub returns-clause-steps : goal.returns-clause-steps
returns-clause-steps g c =
    let cut = c.first_cut-cut.ensures in
    let sized = c.width.ensures.value ∙ g.met.N.AddressInt.sized in
    let start = ap g.N.Key.number c.from_bits-self-inside.ensures ∙ g.met.N.Key.numbered c.first_cut-cut.result.start (rw c.width.ensures.value at cut.start_fits) in
    let end = ap g.N.Key.number c.from_bits-self-inside-2.ensures ∙ g.met.N.Key.numbered c.first_cut-cut.result.end (omega (arith, cut.next_end_fits, c.to_bits-end.ensures.below)) in
    let limits = (λ i. record { start = start i; end = end i; shortest = c.self.inside.min_prefix_len }) ∙ cut.limits in
    let net = c.new_assert.ensures ∙ (λ i. record { number = c.to_addr-addr.ensures i; len = cut.len i }) in
    rw (← c.self.view_is) (next_some g.N.AddressInt.family _ _ _ _ _ c.self.invariant.end_in_range (rw (c.to_bits-start.ensures.value, c.to_bits-end.ensures.value) at c.if-start-end.false) c.to_bits-start.ensures.value c.to_bits-end.ensures.value (rw sized at net) (rw sized at limits))

pub returns-clause-goes : goal.returns-clause-goes
returns-clause-goes g c = progress_first (λ (n : Network). n) (subnets g.N.AddressInt.family) _ (Some c.new_assert.result) _ (returns-clause-steps g c).0
