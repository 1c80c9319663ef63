use Rattle.std.proofs.Common.{true, false, sym, ◌∙◌}
use Rattle.route_laws.specs.Networks.{routes_of}
use Rattle.route_table.proofs.BetweenSteps.{front_comes, last_looked_at}
use Rattle.route_table.proofs.between.Installs.next.Goals as goal

pub holds-requires : goal.holds-requires
holds-requires c = let t = front_comes c.loop-net.self.coming.now c.in-Some.front.now c.in-Some.field-0-0.now c.in-Some.ensures.cases.0 c.loop-net.invariant.0 in record { block = t.1; truncated = t.2 }

pub returns-then-not-holds-clause-coming : goal.returns-then-not-holds-clause-coming
returns-then-not-holds-clause-coming c = (front_comes c.loop-net.self.coming.now c.in-Some.front.now c.in-Some.field-0-0.now c.in-Some.ensures.cases.0 c.loop-net.invariant.0).0

pub returns-then-not-holds-clause-gives : goal.returns-then-not-holds-clause-gives
returns-then-not-holds-clause-gives c = (
  sym c.loop-net.invariant.2 ∙ last_looked_at (routes_of c.loop-net.self.table.now) c.loop-net.self.coming.now c.in-Some.front.now c.in-Some.field-0-0.now false c.in-Some.ensures.cases.0 c.if-not-holds.ensures,
  (front_comes c.loop-net.self.coming.now c.in-Some.front.now c.in-Some.field-0-0.now c.in-Some.ensures.cases.0 c.loop-net.invariant.0).2,
)

pub loop-net-preserved : goal.loop-net-preserved
loop-net-preserved c = (
  (front_comes c.loop-net.self.coming.now c.in-Some.front.now c.in-Some.field-0-0.now c.in-Some.ensures.cases.0 c.loop-net.invariant.0).0,
  c.loop-net.invariant.1,
  sym (last_looked_at (routes_of c.loop-net.self.table.now) c.loop-net.self.coming.now c.in-Some.front.now c.in-Some.field-0-0.now true c.in-Some.ensures.cases.0 c.if-not-holds.ensures) ∙ c.loop-net.invariant.2,
)
