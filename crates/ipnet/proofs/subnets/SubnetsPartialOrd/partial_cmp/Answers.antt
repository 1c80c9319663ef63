use Rattle.ipnet.proofs.ThreeFields.{partly_by_three}
use Rattle.ipnet.proofs.subnets.SubnetsPartialOrd.partial_cmp.Goals as goal

pub returns : goal.returns
returns g c =
    let named = g.N.Key.named in
    rw (← c.t1-1.view_is, ← c.t2-1.view_is, named c.t1-1.inside.start, named c.t2-1.inside.start, named c.t1-1.inside.end, named c.t2-1.inside.end)
    (partly_by_three _ _ _ c.partial_cmp.ensures c.or_partial_cmp.ensures c.or_partial_cmp-2.ensures)
