use Rattle.std.proofs.Common.{◌≡◌, [], sym, ap, ◌∙◌}
use Rattle.route_laws.specs.Changes.{with_each}
use Rattle.route_laws.specs.Networks.{routes_of}
use Rattle.route_laws.specs.Tables.{hop_at}
use Rattle.embedder.proofs.table.rebuilt.Goals as goal

pub returns : goal.returns
returns c x a =
    let M = routes_of c.args.table.now in
    let ps = c.flat-net-items.result in
    let T = c.loop-net.empty in
    let made : T ≡ with_each [] ps =
    ap (with_each T) (sym c.in-None.ensures.steps.0) ∙ c.loop-net.invariant
    ∙ ap (λ U. with_each U c.into_iter-net-iterator.result) c.requires ∙ ap (with_each []) c.into_iter-net-iterator.ensures.into_iter_gives in
    let readded = c.flat.ensures.readded (hop_at M) ps (c.fewest.ensures.hops M c.flat-net-items.ensures.table) c.flat-net-items.ensures.flat in
    ap (λ U. hop_at (routes_of U) x) made ∙ readded.2.same x a
