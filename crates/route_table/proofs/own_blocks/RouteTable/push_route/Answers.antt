use Rattle.std.proofs.Common.{◌∙◌, subst, ap, Some, ℕ}
use Rattle.std.proofs.lemmas.Result.{on_ok_weaker}
use Rattle.ipnet_blocks.specs.Blocks.{Block, IsBlock}
use Rattle.ipnet_blocks.specs.Maximal.{IsMaximal}
use Rattle.route_choices.specs.Hops.{number_of}
use Rattle.route_laws.specs.Networks.{routes_of}
use Rattle.route_laws.specs.Tables.{Governed, route_of}
use Rattle.route_table.proofs.Owned.{grows_by_governed}
use Rattle.route_table.proofs.own_blocks.RouteTable.push_route.Goals as goal

pub returns : goal.returns
returns c =
    let M = routes_of c.args.self.now in
    let same = c.cleared.ensures.block in
    let is = ap number_of c.in-Number.is ∙ ap (λ (k : ℕ). Some k) c.if-found-number.false in
    on_ok_weaker c.push_blocks.result
    (λ e. grows_by_governed M c.requires c.args.number (route_of c.args.route.0 c.args.route.1 c.args.route.2) c.args.networks.now.items c.push_blocks.new.networks.items c.governs.result (subst IsBlock same c.cleared.ensures.is_block) is
    (subst (λ (b : Block). IsMaximal (Governed M b) c.governs.result) same c.governs.ensures.maximal) e)
    c.push_blocks.ensures
