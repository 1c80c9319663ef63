use Rattle.std.proofs.Common.{◌∙◌, sym, ap, is_some}
use Rattle.ipnet.specs.IpNets.{block}
use Rattle.route_choices.proofs.ChoiceLists.{none_of}
use Rattle.route_laws.specs.Networks.{choices_at}
use Rattle.route_laws.proofs.Networks.{del_none}
use Rattle.route_table.proofs.table.RouteTable.del.Goals as goal

pub returns-clause-unchanged : goal.returns-clause-unchanged
returns-clause-unchanged c none =
    let T = c.args.self.now in
    let b = block c.cleared.result in
    let lacks = none_of (choices_at T b) c.args.hop (sym c.remove_choice.ensures.removes.held ∙ ap is_some none) in
    c.remove_choice.ensures.removes.networks ∙ del_none T b c.args.hop c.remove_choice.ensures.tables.0 c.cleared.ensures.is_block lacks
