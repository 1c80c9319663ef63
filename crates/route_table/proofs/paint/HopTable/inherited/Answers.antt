use Rattle.std.proofs.Common.{sym, ap, ◌∙◌}
use Rattle.ipnet.specs.IpNets.{block}
use Rattle.route_laws.specs.Networks.{routes_of}
use Rattle.route_laws.specs.Tables.{match_number, match_of}
use Rattle.route_laws.proofs.Overwritten.{inherited_from_none}
use Rattle.route_table.proofs.Paints.{inherited_through, number_of_item, number_of_none}
use Rattle.route_table.proofs.paint.HopTable.inherited.Goals as goal

pub returns-in_err-supernet : goal.returns-in_err-supernet
returns-in_err-supernet c t = c.from_residual.ensures ∙ sym (ap match_number (inherited_from_none (routes_of c.args.self.now) t (block c.args.net.now) c.requires c.in_err-supernet.ensures))

pub returns-in_err-hop : goal.returns-in_err-hop
returns-in_err-hop c t =
    c.from_residual-in_err-hop.ensures ∙ sym (number_of_none (match_of (routes_of c.args.self.now) (block c.in_ok-supernet.field-0)) c.in_err-hop.ensures.found)
    ∙ inherited_through (routes_of c.args.self.now) t c.args.net.now c.in_ok-supernet.field-0 c.requires c.in_ok-supernet.ensures.0 c.in_ok-supernet.ensures.1

pub returns : goal.returns
returns c t =
    c.number.ensures.number ∙ number_of_item (match_of (routes_of c.args.self.now) (block c.in_ok-supernet.field-0)) c.in_ok-hop.field-0-0 c.in_ok-hop.hop c.in_ok-hop.field-0-2 c.in_ok-hop.ensures.found
    ∙ inherited_through (routes_of c.args.self.now) t c.args.net.now c.in_ok-supernet.field-0 c.requires c.in_ok-supernet.ensures.0 c.in_ok-supernet.ensures.1
