use Rattle.std.proofs.Common.{◌≡◌, subst, sym}
use Rattle.std.proofs.lemmas.Result.{IfOk-weaker}
use Rattle.route_laws.specs.Networks.{routes_of}
use Rattle.route_laws.specs.Tables.{hop_at}
use Rattle.routes_c.specs.Contents.{hops_of_index}
use Rattle.routes_c.specs.Opens.{HasHopsOf}
use Rattle.routes_c.proofs.follower_session.FollowerSession.index.Goals as goal

pub returns-in-Ok-clause-hops : goal.returns-in-Ok-clause-hops
returns-in-Ok-clause-hops c = let T = c.args.self.now.follower.table in
    IfOk-weaker c.new.result (λ s. hops_of_index s ≡ c.in-Ok.index) (λ s. HasHopsOf T (hops_of_index s))
    (λ s e. subst (HasHopsOf T) (sym e) (c.in-Ok.ensures.hops (hop_at (routes_of T)) c.in-Some.ensures.flat)) c.new.ensures.index
