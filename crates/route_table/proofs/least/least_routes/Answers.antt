use Rattle.ipnet_addr.specs.Addresses.{Ipv4, Ipv6}
use Rattle.route_table.specs.InnerLeast.{pieces_of}
use Rattle.route_table.proofs.FlatPieces.{are_pieces}
use Rattle.route_table.proofs.LeastBits.{least_of_both, truncated_of_both}
use Rattle.route_table.proofs.least.least_routes.Goals as goal

pub fewest-requires : goal.fewest-requires
fewest-requires c = (pieces_of Ipv4 c.args.flat, c.in_ok-v4.ensures.ipv4)

pub fewest-requires-2 : goal.fewest-requires-2
fewest-requires-2 c = (pieces_of Ipv6 c.args.flat, c.in_ok-v4.ensures.ipv6)

pub returns-clause-least : goal.returns-clause-least
returns-clause-least c h flat = rw c.new.ensures (least_of_both h _ _ (c.in_ok-ipv4.ensures _ c.in_ok-v4.ensures.ipv4) (c.in_ok-ipv6.ensures _ c.in_ok-v4.ensures.ipv6)
    (are_pieces h c.args.flat flat Ipv4) (are_pieces h c.args.flat flat Ipv6))

pub returns-clause-truncated : goal.returns-clause-truncated
returns-clause-truncated c = rw c.new.ensures (truncated_of_both _ _ (c.in_ok-ipv4.ensures _ c.in_ok-v4.ensures.ipv4) (c.in_ok-ipv6.ensures _ c.in_ok-v4.ensures.ipv6))
