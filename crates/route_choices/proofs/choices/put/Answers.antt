use Rattle.route_choices.proofs.Slots.{turned}
use Rattle.route_choices.proofs.choices.put.Goals as goal

pub returns : goal.returns
returns c = turned c.args.slots.now c.args.at c.args.slot c.rotate_right.new.self c.requires c.rotate_right.ensures.after
