use Rattle.ipnet_blocks.proofs.laws.begins_is_inside.Goals as goal
use Rattle.ipnet_blocks.proofs.Strings.{begins_from_inside, inside_from_begins}

pub returns : goal.returns
returns c a b p q f = (inside_from_begins a b p q f, begins_from_inside a b p q)
