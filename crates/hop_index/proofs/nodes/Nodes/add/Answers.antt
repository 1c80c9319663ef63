use Rattle.std.proofs.Common.{rules, ◌^◌, refl}
use Rattle.hop_index.proofs.Divisions.{one_more_node}
use Rattle.hop_index.proofs.nodes.Nodes.add.Goals as goal

pub returns-clause-nodes : goal.returns-clause-nodes
returns-clause-nodes g c =
    rw (c.in_ok-push.ensures.items, c.in_ok-extend_from_slice.ensures.items)
    (one_more_node c.args.self.now.nodes.items c.at.result c.args.self.now.ranges (2 ^ g.N.Key.width) c.args.self.now.cells.items c.args.entries.now (search rules) (rw c.at.ensures (c.requires.entries _ refl refl)) c.requires.nodes)
