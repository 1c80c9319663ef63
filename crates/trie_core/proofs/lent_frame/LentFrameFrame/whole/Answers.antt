use Rattle.std.proofs.Common.{ap}
use Rattle.std.specs.FinMap.{entries}
use Rattle.trie_core.proofs.lent_frame.LentFrameFrame.whole.Goals as goal

pub invariant_of-result : goal.invariant_of-result
invariant_of-result g c = c.parts-values.ensures.order

pub returns-clause-rest : goal.returns-clause-rest
returns-clause-rest g c = ap entries c.parts-values.ensures.map

pub returns-clause-levels : goal.returns-clause-levels
returns-clause-levels g c = c.parts-values.ensures.levels
