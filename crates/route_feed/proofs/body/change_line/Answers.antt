use Rattle.std.proofs.Common.{◌∙◌, ap, sym}
use Rattle.ipnet.specs.IpNets.{block}
use Rattle.route_lines.specs.declared.reply.Reply.TheVariants.{Set, Unset}
use Rattle.route_feed.specs.Steps.{change_line}
use Rattle.route_feed.proofs.body.change_line.Goals as goal

pub returns-in-Some-clause-value : goal.returns-in-Some-clause-value
returns-in-Some-clause-value c e = ap (λ n. Set n c.in-Some.number) e ∙ ap (λ h. change_line h (block c.args.net)) (sym c.in-Some.is)

pub returns-in-None-clause-value : goal.returns-in-None-clause-value
returns-in-None-clause-value c e = ap Unset e ∙ ap (λ h. change_line h (block c.args.net)) (sym c.in-None.is)
