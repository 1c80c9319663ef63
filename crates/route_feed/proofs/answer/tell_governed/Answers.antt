use Rattle.route_feed.proofs.answer.tell_governed.Goals as goal

pub returns : goal.returns
returns g c = (c.governed.result, c.governed.ensures.maximal, c.reply.ensures)
