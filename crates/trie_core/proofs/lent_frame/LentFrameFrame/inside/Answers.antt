use Rattle.std.proofs.Common.{◌/◌, ◌^◌, ap, arith}
use Rattle.trie_core.proofs.PlaceTables.{inside_ends}
use Rattle.trie_core.proofs.Frames.{inside_part}
use Rattle.trie_core.proofs.lent_frame.LentFrameFrame.inside.Goals as goal

pub before-requires : goal.before-requires
before-requires g c = omega (arith, (inside_ends c.args.path.now c.requires.short).0, ap (λ n. 31 / 2 ^ n) c.len-len.ensures, c.place-place.ensures.value)

pub before-requires-2 : goal.before-requires-2
before-requires-2 g c = omega (arith, (inside_ends c.args.path.now c.requires.short).1, ap (λ n. 32 / 2 ^ n) c.len-len.ensures, c.five-child.ensures.value)

pub invariant_of-result : goal.invariant_of-result
invariant_of-result g c = (inside_part c.args.path.now c.parts-values.ensures c.requires.short c.len-len.ensures c.place-place.ensures.value c.five-child.ensures.value c.from.ensures c.before-2.ensures c.from-2.ensures c.before-3.ensures).order

pub returns-clause-rest : goal.returns-clause-rest
returns-clause-rest g c = (inside_part c.args.path.now c.parts-values.ensures c.requires.short c.len-len.ensures c.place-place.ensures.value c.five-child.ensures.value c.from.ensures c.before-2.ensures c.from-2.ensures c.before-3.ensures).rest

pub returns-clause-levels : goal.returns-clause-levels
returns-clause-levels g c = (inside_part c.args.path.now c.parts-values.ensures c.requires.short c.len-len.ensures c.place-place.ensures.value c.five-child.ensures.value c.from.ensures c.before-2.ensures c.from-2.ensures c.before-3.ensures).levels
