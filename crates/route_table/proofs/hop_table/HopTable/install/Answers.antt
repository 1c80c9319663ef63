use Rattle.std.proofs.Common.{◌∙◌, [], ◌∷◌, sym, ap}
use Rattle.ipnet_blocks.specs.Blocks.{Block}
use Rattle.ipnet.specs.IpNets.{block}
use Rattle.route_choices.specs.Choices.{default_preference}
use Rattle.route_laws.specs.Networks.{choices_at, routes_of, with_choices}
use Rattle.route_laws.specs.Tables.{with_route}
use Rattle.route_laws.proofs.Networks.{routes_with}
use Rattle.route_table.proofs.Outcomes.{when_err}
use Rattle.route_table.proofs.hop_table.HopTable.install.Goals as goal

pub returns-clause-networks : goal.returns-clause-networks
returns-clause-networks c = c.in_ok-_is_leaf.ensures.networks ∙ ap (λ b. with_choices c.args.self.now b (record { hop = c.args.hop; pref = default_preference } ∷ [])) c.cleared.ensures.block

pub returns-clause-routes : goal.returns-clause-routes
returns-clause-routes c =
    ap routes_of c.in_ok-_is_leaf.ensures.networks
    ∙ routes_with c.args.self.now (record { block = block c.cleared.result; choices = record { hop = c.args.hop; pref = default_preference } ∷ [] })
    ∙ ap (λ (b : Block). with_route (routes_of c.args.self.now) (record { block = b; hop = c.args.hop; pref = default_preference })) c.cleared.ensures.block

pub returns-in_err-_is_leaf-clause-absent : goal.returns-in_err-_is_leaf-clause-absent
returns-in_err-_is_leaf-clause-absent c = when_err c.from_residual.result (ap (choices_at c.args.self.now) (sym c.cleared.ensures.block) ∙ c.in_err-_is_leaf.ensures.absent)
