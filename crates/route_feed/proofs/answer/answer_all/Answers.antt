use Rattle.std.proofs.Common.{◌∙◌, ap, refl, sym, false}
use Rattle.ipnet.specs.IpNets.{block, network_at}
use Rattle.route_laws.proofs.NetworksAt.{of_network_at}
use Rattle.route_feed.proofs.answer.answer_all.Goals as goal

pub reply-requires-clause-body : goal.reply-requires-clause-body
reply-requires-clause-body g c = c.trunc.ensures.value ∙ sym (ap network_at (ap block c.trunc.ensures.value ∙ of_network_at (block c.args.net)))

pub returns : goal.returns
returns g c =
    let cleared = ap block c.trunc.ensures.value ∙ of_network_at (block c.args.net) in
    record { refused = false; reply = rw (← c.all.ensures.choices) (rw cleared at c.reply.ensures); table = refl }
