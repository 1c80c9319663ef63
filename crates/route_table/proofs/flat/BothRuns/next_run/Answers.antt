use Rattle.std.proofs.Common.{ap, refl, subst}
use Rattle.ipnet_blocks.specs.declared.aggregate.Span.{Span}
use Rattle.route_table.specs.InnerRunning.{GivesRun}
use Rattle.route_table.proofs.FlatRuns.{next_ipv4, next_ipv6, no_hops}
use Rattle.route_table.proofs.HopRuns.{run_of_next}
use Rattle.route_table.proofs.flat.BothRuns.next_run.Goals as goal

pub returns-in-Some-clause-run : goal.returns-in-Some-clause-run
returns-in-Some-clause-run c =
    let span = c.span-span.ensures.value in
    run_of_next (next_ipv4 c.args.self.now c.requires c.next.new.self c.in-Some.run' c.in-Some.ensures.run) _ refl (ap (λ (s : Span). s.first) span) (ap (λ (s : Span). s.last) span) c.number.ensures

pub returns-in-Some-next-clause-run : goal.returns-in-Some-next-clause-run
returns-in-Some-next-clause-run c =
    let span = c.span-span-in-Some-next.ensures.value in
    let none = subst (λ o. GivesRun c.args.self.now.v4 o c.next.new.self) c.in_default.is c.next.ensures.run in
    run_of_next (next_ipv6 c.args.self.now c.requires c.next-2.new.self c.in-Some-next.run' c.next.new.self none c.in-Some-next.ensures.run) _ refl
    (ap (λ (s : Span). s.first) span) (ap (λ (s : Span). s.last) span) c.number-in-Some-next.ensures

pub returns-in-None-clause-run : goal.returns-in-None-clause-run
returns-in-None-clause-run c =
    let none = subst (λ o. GivesRun c.args.self.now.v4 o c.next.new.self) c.in_default.is c.next.ensures.run in
    (no_hops _ _ none.0 c.in-None.ensures.run.0, no_hops _ _ none.1 c.in-None.ensures.run.1)
