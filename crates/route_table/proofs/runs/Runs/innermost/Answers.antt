use Rattle.std.proofs.Common.{◌∙◌, ap, length, ◌-◌, slice_get}
use Rattle.route_table.specs.InnerRouteSpans.{RouteSpan}
use Rattle.route_table.proofs.RunSteps.{inner_at}
use Rattle.route_table.proofs.runs.Runs.innermost.Goals as goal

pub returns-in-Some : goal.returns-in-Some
returns-in-Some g c =
    ap (λ (r : RouteSpan). (r.last, r.number)) c.reach.view_is
    ∙ inner_at _ c.args.self.now.stack.items c.in-Some.reach.now (c.in-Some.ensures.value ∙ ap (λ rs. slice_get rs (length rs - 1)) c.as_slice.ensures.value)
