use Rattle.std.proofs.Common.{arith}
use Rattle.trie_core.proofs.PlaceTables.{length_of_place}
use Rattle.trie_core.proofs.Numbers.{place_strings}
use Rattle.trie_core.proofs.tables.place_length.Goals as goal

pub returns-clause-value : goal.returns-clause-value
returns-clause-value c = length_of_place c.args.place c.requires

pub returns-clause-below : goal.returns-clause-below
returns-clause-below c = omega (arith, length_of_place c.args.place c.requires, (place_strings c.args.place c.requires).short)
