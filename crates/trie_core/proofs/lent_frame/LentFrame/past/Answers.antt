use Rattle.std.proofs.Common.{sym, take, length-take, arith}
use Rattle.trie_core.proofs.Numbers.{place_bound}
use Rattle.trie_core.proofs.Frames.{past_part}
use Rattle.trie_core.proofs.lent_frame.LentFrame.past.Goals as goal

pub from-requires : goal.from-requires
from-requires g c = omega (arith, c.after_beginnings.ensures c.args.path.now c.requires.long (sym c.five-five.ensures.value), place_bound 5 (take 4 c.args.path.now) (omega (arith, length-take 4 c.args.path.now)))

pub invariant_of-result : goal.invariant_of-result
invariant_of-result g c = (past_part c.args.path.now c.parts-values.ensures c.requires.long (c.after_beginnings.ensures c.args.path.now c.requires.long (sym c.five-five.ensures.value)) c.five-five.ensures.value c.from.ensures c.from-2.ensures).order

pub returns-clause-rest : goal.returns-clause-rest
returns-clause-rest g c = (past_part c.args.path.now c.parts-values.ensures c.requires.long (c.after_beginnings.ensures c.args.path.now c.requires.long (sym c.five-five.ensures.value)) c.five-five.ensures.value c.from.ensures c.from-2.ensures).rest

pub returns-clause-levels : goal.returns-clause-levels
returns-clause-levels g c = (past_part c.args.path.now c.parts-values.ensures c.requires.long (c.after_beginnings.ensures c.args.path.now c.requires.long (sym c.five-five.ensures.value)) c.five-five.ensures.value c.from.ensures c.from-2.ensures).levels
