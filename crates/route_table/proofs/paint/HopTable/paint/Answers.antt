use Rattle.std.proofs.Common.{◌∙◌, sym, ap, subst}
use Rattle.std.proofs.lemmas.Result.{IfOk-weaker, on_err_weaker}
use Rattle.ipnet_blocks.specs.Blocks.{IsBlock}
use Rattle.ipnet.specs.IpNets.{block}
use Rattle.route_choices.specs.Choices.{default_preference}
use Rattle.route_laws.specs.Networks.{routes_of}
use Rattle.route_laws.specs.Overwritten.{overwritten, without_inside}
use Rattle.route_laws.specs.Tables.{hop_at, route_of}
use Rattle.route_laws.proofs.Networks.{routes_are_table}
use Rattle.route_laws.proofs.Overwritten.{routes_overwritten, painted_hops}
use Rattle.route_table.proofs.Paints.{differ_from_test, painted_bare, painted_over, routes_outside, same_test}
use Rattle.route_table.proofs.paint.HopTable.paint.Goals as goal

pub returns-then-eq-clause-routes : goal.returns-then-eq-clause-routes
returns-then-eq-clause-routes c =
    let t = routes_are_table c.args.self.now c.remove_inside.ensures.tables.0 in
    ap routes_of c.remove_inside.ensures.networks ∙ routes_outside c.args.self.now (block c.cleared-net.result) ∙ ap (without_inside (routes_of c.args.self.now)) c.cleared-net.ensures.block
    ∙ sym (painted_bare (routes_of c.args.self.now) (route_of c.args.net c.args.hop default_preference)
    (same_test (routes_of c.args.self.now) (block c.cleared-net.result) (block c.args.net) c.args.hop c.inherited.result c.number.result c.cleared-net.ensures.block (c.inherited.ensures t) c.number.ensures.number ∙ sym c.if-eq.ensures))

pub returns-then-eq-clause-hops : goal.returns-then-eq-clause-hops
returns-then-eq-clause-hops c x a =
    ap (λ N. hop_at N x) (returns-then-eq-clause-routes c)
    ∙ painted_hops (routes_of c.args.self.now) (routes_are_table c.args.self.now c.remove_inside.ensures.tables.0) (route_of c.args.net c.args.hop default_preference) (subst IsBlock c.cleared-net.ensures.block c.cleared-net.ensures.is_block) c.number.ensures.in_range x a

pub returns-clause-routes : goal.returns-clause-routes
returns-clause-routes c =
    let t = routes_are_table c.args.self.now c.overwrite.ensures.tables.0 in
    IfOk-weaker c.overwrite.result _ _ (λ _ e. ap routes_of e ∙ routes_overwritten c.args.self.now (block c.cleared-net.result) (record { hop = c.args.hop; pref = default_preference })
    ∙ ap (λ d. overwritten (routes_of c.args.self.now) (record { block = d; hop = c.args.hop; pref = default_preference })) c.cleared-net.ensures.block
    ∙ sym (painted_over (routes_of c.args.self.now) (route_of c.args.net c.args.hop default_preference)
    (same_test (routes_of c.args.self.now) (block c.cleared-net.result) (block c.args.net) c.args.hop c.inherited.result c.number.result c.cleared-net.ensures.block (c.inherited.ensures t) c.number.ensures.number ∙ sym c.if-eq.ensures))) c.overwrite.ensures.networks

pub returns-clause-needed : goal.returns-clause-needed
returns-clause-needed c =
    let t = routes_are_table c.args.self.now c.overwrite.ensures.tables.0 in
    on_err_weaker c.overwrite.result (λ _. differ_from_test _ _
    (same_test (routes_of c.args.self.now) (block c.cleared-net.result) (block c.args.net) c.args.hop c.inherited.result c.number.result c.cleared-net.ensures.block (c.inherited.ensures t) c.number.ensures.number ∙ sym c.if-eq.ensures)) c.overwrite.ensures.unchanged
