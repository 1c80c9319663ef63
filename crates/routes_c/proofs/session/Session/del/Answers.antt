use Rattle.std.proofs.Common.{◌≡◌, ◌∙◌, sym, refl, inr, arith, false}
use Rattle.ipnet.specs.IpNets.{block}
use Rattle.route_choices.specs.Choices.{holds_hop}
use Rattle.route_feed.proofs.AnsweredChanges.{none_left}
use Rattle.route_laws.specs.Networks.{choices_at}
use Rattle.routes_c.proofs.session.Session.del.Goals as goal

pub returns-in-None-clause-removes : goal.returns-in-None-clause-removes
returns-in-None-clause-removes c =
    let T = c.args.self.now.table in
    let b = block c.args.net.now in
    let e = c.in-None.ensures in
    let none : holds_hop (choices_at T b) c.args.hop ≡ false = sym e.stored in
    record {
      answers = inr refl;
      removed = e.networks;
      done = λ z. absurd (omega (arith, z));
      missing = λ _. (none, e.networks ∙ none_left T e.tables.0 b c.args.hop none, refl);
    }
