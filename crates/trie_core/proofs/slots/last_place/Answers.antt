use Rattle.std.proofs.Common.{arith}
use Rattle.trie_core.proofs.Searches.{last_place}
use Rattle.trie_core.proofs.slots.last_place.Goals as goal

pub returns : goal.returns
returns c = last_place c.args.taken c.requires (omega arith)
