use Rattle.std.proofs.Common.{◌∙◌, ap, subst, List}
use Rattle.std.specs.Option.{option_map}
use Rattle.ipnet.specs.IpNets.{block, family, parts}
use Rattle.ipnet_blocks.proofs.NetworkBlocks.{block_is}
use Rattle.route_choices.specs.Choices.{Choice, choices_with}
use Rattle.route_laws.specs.Networks.{best_route, choices_at, routes_of}
use Rattle.route_laws.specs.Tables.{Route, IsTable, match_of, item_of}
use Rattle.embedder.proofs.table.routed.Goals as goal

pub returns : goal.returns
returns c =
    let n = c.args.asked.now in
    let T = c.args.table.now in
    let b = block c.args.net in
    let new : Choice = record { hop = c.args.hop; pref = c.args.pref } in
    let laws = c.best_routes.ensures in
    let tables = c.in_ok-add.ensures.tables in
    let routes = ap routes_of c.in_ok-add.ensures.networks ∙ laws.add T b new in
    c.get.ensures.found ∙ ap (option_map item_of)
    (ap (λ (M : List Route). match_of M (block n)) routes
    ∙ c.held.ensures.match_after_add (routes_of T) (best_route (record { block = b; choices = choices_with (choices_at T b) new })) (block n) (laws.table T tables.0) (subst IsTable routes (laws.table _ tables.1))
    (block_is (family n) (parts n) c.trunc-asked.ensures.network))
