use Rattle.trie_core.proofs.PlaceTables.{after_longest}
use Rattle.trie_core.proofs.lent_frame.after_beginnings.Goals as goal

pub returns : goal.returns
returns c = λ q h e. after_longest q c.args.five h e
