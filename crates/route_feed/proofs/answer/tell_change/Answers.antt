use Rattle.std.proofs.Common.{◌∷◌, [], ◌∙◌, ap, sym}
use Rattle.ipnet.specs.IpNets.{block, network_at}
use Rattle.route_laws.proofs.NetworksAt.{of_network_at}
use Rattle.route_feed.specs.InnerReplies.{GovernsAll}
use Rattle.route_feed.specs.Steps.{change_line}
use Rattle.route_feed.proofs.answer.tell_change.Goals.{then-is_leaf-via-then-is_leaf, then-is_leaf-via-else-is_leaf+then-is_leaf-2}
use Rattle.route_feed.proofs.answer.tell_change.Goals as goal

pub reply-requires-clause-body : goal.reply-requires-clause-body
reply-requires-clause-body g c = c.change_line.ensures.printable (c.trunc.ensures.value ∙ sym (ap network_at (ap block c.trunc.ensures.value ∙ of_network_at (block c.args.net.now))))

pub returns-then-is_leaf-clause-differs : goal.returns-then-is_leaf-clause-differs
returns-then-is_leaf-clause-differs g c = λ _.
    let cleared = ap block c.trunc.ensures.value ∙ of_network_at (block c.args.net.now) in
    let line = c.change_line.ensures.value (c.trunc.ensures.value ∙ sym (ap network_at cleared)) ∙ ap (change_line c.args.after) cleared in
    let alone : GovernsAll c.args.table.now (block c.args.net.now) = elim c.then-is_leaf.branch [
      | then-is_leaf-via-then-is_leaf w ↦ c.requires.leaf w.if-is_leaf.true
      | then-is_leaf-via-else-is_leaf+then-is_leaf-2 w ↦ w.is_leaf.ensures.governed w.if-is_leaf-2.true
    ] in
    (block c.args.net.now ∷ [], alone, rw (← line) c.reply.ensures)
