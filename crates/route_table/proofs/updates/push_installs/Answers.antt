use Rattle.std.proofs.Common.{◌≤◌, ◌∷◌, [], Bool, List, Option, Some, length, ℕ}
use Rattle.std.proofs.lemmas.List.{nil_from_length}
use Rattle.std.proofs.lemmas.List.Elements.{All-pop}
use Rattle.ipnet_addr.specs.Addresses.{width}
use Rattle.route_table.proofs.Updating.{installs_join, no_installs}
use Rattle.route_table.proofs.updates.push_installs.Goals as goal

pub loop-path-preserved : goal.loop-path-preserved
loop-path-preserved g c = (
  (All-pop (λ (e : List Bool × Option (Option ℕ)). length e.0 ≤ width g.P.FamilyNet.family) _ c.in-Some.front.now (Some c.in-Some.field-0-0.now) c.in-Some.ensures.cases.0 c.loop-path.invariant.0).0,
  λ new a. c.loop-path.invariant.1 new (rw c.in-Some.ensures.cases.0
      (installs_join g.P.FamilyNet.family c.in-Some.front.now (c.in-Some.field-0-0.now ∷ []) c.loop-path.operations.items c.push_install.new.operations.items new c.in_ok-push_install.ensures a)),
)

pub returns : goal.returns
returns g c = c.loop-path.invariant.1 c.loop-path.operations.items (rw (nil_from_length c.loop-path.rest.now c.in_default.ensures.cases) (no_installs g.P.FamilyNet.family c.loop-path.operations.items))
