use Rattle.std.proofs.Common.{◌∙◌, ap, sym, subst, length, arith}
use Rattle.std.specs.FinMap.{entries}
use Rattle.trie_core.specs.InnerNodes.{under}
use Rattle.trie_core.specs.InnerWalks.{KeysWithin}
use Rattle.trie_core.proofs.Frames.{under_none}
use Rattle.trie_core.proofs.Walks.{at_root}
use Rattle.trie_core.proofs.walk.FrameWalk.whole.Goals as goal

pub start-requires-clause-levels : goal.start-requires-clause-levels
start-requires-clause-levels g c = omega (arith, c.requires.levels, c.whole.ensures.levels)

pub start-requires-clause-reach : goal.start-requires-clause-reach
start-requires-clause-reach g c = omega (arith, c.requires.levels, c.whole.ensures.levels, ap length c.new.ensures)

pub start-requires-clause-keys : goal.start-requires-clause-keys
start-requires-clause-keys g c = subst (λ es. KeysWithin 128 (under c.new.result es)) (sym c.whole.ensures.rest) (at_root {m = g.S.Frame.Frame.seen c.args.node} c.requires.levels c.requires.keys c.new.ensures).keys

pub returns : goal.returns
returns g c = c.start.ensures ∙ (λ i. under (c.new.ensures i) (c.whole.ensures.rest i)) ∙ under_none (entries (g.S.Frame.Frame.seen c.args.node).entries)
