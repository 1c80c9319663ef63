use Rattle.std.proofs.Common.{◌∷◌, sym, ap, subst, ◌∙◌}
use Rattle.ipnet.specs.IpNets.{block}
use Rattle.route_laws.specs.LeastTables.{routes_for}
use Rattle.route_laws.specs.Operations.{Remove, removes, surplus}
use Rattle.route_laws.specs.Tables.{IsTable, route_of}
use Rattle.route_table.specs.InnerBetween.{AreComing, routes_left}
use Rattle.route_table.proofs.BetweenSteps.{next_removed, next_kept, rest_is_table}
use Rattle.route_table.proofs.between.Removes.next.Goals as goal

pub passes_to-requires : goal.passes_to-requires
passes_to-requires c = record { coming = subst (λ b. AreComing b.now) (sym c.in-Some.ensures.coming) c.loop-net.invariant.0.coming; truncated = c.in-Some.ensures.gives.1 }

pub returns-then-not-passes_to-clause-removes : goal.returns-then-not-passes_to-clause-removes
returns-then-not-passes_to-clause-removes c = record {
  coming = c.passes_to.ensures.coming;
  routes = subst IsTable (sym c.passes_to.ensures.routes) (rest_is_table _ _ (subst IsTable c.in-Some.ensures.gives.0 c.loop-net.invariant.0.routes));
}

pub returns-then-not-passes_to-clause-gives : goal.returns-then-not-passes_to-clause-gives
returns-then-not-passes_to-clause-gives c = (
  sym c.loop-net.invariant.1
      ∙ ap (λ b. removes (surplus (routes_left c.loop-net.self) (routes_for b.now))) (sym c.in-Some.ensures.coming)
      ∙ next_removed (routes_for c.passes_to.new.self.coming.now) (routes_for c.route.new.self.coming.now) (route_of c.in-Some.net c.in-Some.field-0-1 c.in-Some.field-0-2) (routes_left c.loop-net.self) (routes_left c.route.new.self)
      c.in-Some.ensures.gives.0 c.loop-net.invariant.0.routes c.if-not-passes_to.ensures.stored c.passes_to.ensures.behind
      ∙ ap (λ rs. Remove (block c.in-Some.net) ∷ removes (surplus rs (routes_for c.passes_to.new.self.coming.now))) (sym c.passes_to.ensures.routes),
  c.in-Some.ensures.gives.1,
)

pub loop-net-preserved : goal.loop-net-preserved
loop-net-preserved c = (
  record {
    coming = c.passes_to.ensures.coming;
    routes = subst IsTable (sym c.passes_to.ensures.routes) (rest_is_table _ _ (subst IsTable c.in-Some.ensures.gives.0 c.loop-net.invariant.0.routes));
  },
  ap (λ rs. removes (surplus rs (routes_for c.passes_to.new.self.coming.now))) c.passes_to.ensures.routes
      ∙ next_kept (routes_for c.passes_to.new.self.coming.now) (routes_for c.route.new.self.coming.now) (route_of c.in-Some.net c.in-Some.field-0-1 c.in-Some.field-0-2) (routes_left c.loop-net.self) (routes_left c.route.new.self)
      c.in-Some.ensures.gives.0 c.loop-net.invariant.0.routes c.if-not-passes_to.ensures.stored c.passes_to.ensures.behind
      ∙ ap (λ b. removes (surplus (routes_left c.loop-net.self) (routes_for b.now))) c.in-Some.ensures.coming
      ∙ c.loop-net.invariant.1,
)
