use Rattle.ipnet.proofs.ThreeFields.{by_three}
use Rattle.ipnet.proofs.subnets.SubnetsOrd.cmp.Goals as goal

pub returns : goal.returns
returns g c =
    let named = g.N.Key.named in
    rw (← c.t1-1.view_is, ← c.t2-1.view_is, named c.t1-1.inside.start, named c.t2-1.inside.start, named c.t1-1.inside.end, named c.t2-1.inside.end)
    (by_three _ _ _ c.cmp.ensures c.or_cmp.ensures c.or_cmp-2.ensures)
