use Rattle.std.proofs.Common.{◌+◌, ◌≤◌, ℕ, length, ◌∙◌, arith}
use Rattle.hop_index.specs.Indexes.{hop_of}
use Rattle.hop_index.specs.InnerNodes.{index_of}
use Rattle.hop_index.proofs.Groups.{one_more_group}
use Rattle.hop_index.proofs.batches.store_all.Goals as goal

pub loop-place-preserved : goal.loop-place-preserved
loop-place-preserved g c =
    let end : ℕ = c.loop-place.place + c.min.result in
    let i = c.loop-place.invariant in
    let within : end ≤ length c.args.addrs.now = omega (arith, c.min.ensures, i.within) in
    record {
      within = within;
      done = one_more_group (λ addr. g.H.FromHop.of_hop (hop_of (index_of c.args.sides.now.v4 c.args.sides.now.v6) (g.A.Addressed.address addr))) c.args.addrs.now c.loop-place.hops c.store.new.hops c.loop-place.place end
          (omega arith) within (c.loop-place.auto.hops ∙ c.requires) c.store.ensures i.done;
    }
