use Rattle.std.proofs.Common.{ap, count_ones, arith}
use Rattle.trie_core.proofs.Aligned.{path_length}
use Rattle.trie_core.proofs.Numbers.{place_from_number, place_bound}
use Rattle.trie_core.proofs.path.Path.place.Goals as goal

pub returns-clause-value : goal.returns-clause-value
returns-clause-value c = omega (arith, place_from_number c.args.self.now c.requires, path_length {n = c.self.inside.len} _ c.self.view_is, c.five-five.ensures.value, ap count_ones c.five-five.ensures.value)

pub returns-clause-below : goal.returns-clause-below
returns-clause-below c = omega (arith, place_from_number c.args.self.now c.requires, path_length {n = c.self.inside.len} _ c.self.view_is, c.five-five.ensures.value, ap count_ones c.five-five.ensures.value, place_bound 5 c.args.self.now c.requires)
