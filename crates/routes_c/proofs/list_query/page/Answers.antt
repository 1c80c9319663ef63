use Rattle.std.proofs.Common.{◌<◌, ◌++◌, ◌∷◌, [], ◌∙◌, ap, arith, length}
use Rattle.route_laws.specs.Tables.{route_of}
use Rattle.routes_c.proofs.Pages.{one_more}
use Rattle.routes_c.proofs.list_query.page.Goals as goal

pub loop-routes-preserved : goal.loop-routes-preserved
loop-routes-preserved c =
    let room : length c.loop-routes.list.items < c.args.limit = omega arith in
    one_more c.args.limit c.loop-routes.list.items c.push.new.self.items _ c.loop-routes.routes c.next.new.self (route_of c.in-Some.net c.in-Some.hop c.in-Some.pref) room c.in-Some.ensures.steps.0
    (c.in_ok-push.ensures.items ∙ ap (λ r. c.loop-routes.list.items ++ r ∷ []) c.shown_at.ensures) c.loop-routes.invariant
