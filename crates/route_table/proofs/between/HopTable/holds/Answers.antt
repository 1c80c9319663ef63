use Rattle.std.proofs.Common.{rules, ◌≡◌, ◌↔◌, true, subst, sym, Some}
use Rattle.route_choices.specs.Choices.{default_preference}
use Rattle.route_laws.specs.Networks.{routes_of}
use Rattle.route_table.proofs.BetweenSteps.{held_by_get, same_items}
use Rattle.route_table.proofs.between.HopTable.holds.Goals as goal

pub returns : goal.returns
returns c = held_by_get (routes_of c.args.self.now) c.args.net.now c.args.hop c.get.result c.eq.result c.get.ensures.table c.requires.block c.requires.truncated c.get.ensures.found
    (subst (λ b. (b ≡ true) ↔ (c.get.result ≡ Some (c.args.net.now, c.args.hop, default_preference))) (sym c.eq.ensures)
    (same_items _ _ _ c.network_equality.ensures.either (λ j k. search rules) (λ p q. search rules) c.get.result (c.args.net.now, c.args.hop, default_preference)))
