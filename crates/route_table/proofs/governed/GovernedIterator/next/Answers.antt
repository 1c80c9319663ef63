use Rattle.std.proofs.Common.{◌∙◌, sym, ap, subst}
use Rattle.ipnet_blocks.specs.InnerSpans.{limits_of}
use Rattle.ipnet.specs.IpNets.{family}
use Rattle.std.specs.Iterator.{YieldsFirst}
use Rattle.ipnet.specs.IpSubnets.{ip_limits, ip_subnets}
use Rattle.route_table.specs.InnerGoverning.{blocks_left}
use Rattle.route_table.specs.Items.{GivesBlock}
use Rattle.route_table.proofs.Gaps.{next_here, next_none, next_gap}
use Rattle.route_table.proofs.governed.GovernedIterator.next.Goals as goal

pub returns-in-Some-clause-steps : goal.returns-in-Some-clause-steps
returns-in-Some-clause-steps c = let n = next_here c.self.inside.gaps c.self.inside.blocks c.next.new.self c.in-Some.net c.in-Some.ensures.steps.0 in (sym c.self.view_is ∙ n.0, n.1)

pub returns-in_err-gap-clause-steps : goal.returns-in_err-gap-clause-steps
returns-in_err-gap-clause-steps c =
    let n = next_none c.self.inside.gaps c.next-2.new.self c.self.inside.blocks c.next.new.self (subst (λ o. YieldsFirst ip_subnets c.self.inside.blocks o c.next.new.self) c.in_default.is c.next.ensures.steps.0) c.in_err-gap.ensures.gap in
    subst (λ o. GivesBlock c.args.self.now o (blocks_left c.next-2.new.self c.next.new.self)) (sym c.from_residual.ensures) (sym c.self.view_is ∙ n.0, n.1)

pub returns-clause-steps : goal.returns-clause-steps
returns-clause-steps c =
    subst (λ bs. GivesBlock bs c.next-3.result (blocks_left c.next-2.new.self c.next-3.new.self)) c.self.view_is
    (next_gap c.self.inside.gaps c.next-2.new.self c.self.inside.blocks c.next.new.self c.blocks-self-inside.result c.next-3.new.self c.in_ok-gap.gap c.next-3.result c.in_ok-gap.ensures.net
    (subst (λ o. YieldsFirst ip_subnets c.self.inside.blocks o c.next.new.self) c.in_default.is c.next.ensures.steps.0) c.in_ok-gap.ensures.gap (c.blocks-self-inside.ensures ∙ ap (λ f. ip_limits f (limits_of c.in_ok-gap.gap)) c.of.ensures ∙ ap (λ m. ip_limits (family m) (limits_of c.in_ok-gap.gap)) c.in_ok-gap.ensures.net) c.next-3.ensures.steps.0)
