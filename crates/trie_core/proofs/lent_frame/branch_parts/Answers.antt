use Rattle.std.proofs.Common.{◌∙◌, ap}
use Rattle.trie_core.specs.InnerPlaces.{placed}
use Rattle.trie_core.proofs.Seen.{seen}
use Rattle.trie_core.proofs.Frames.{are_parts, same_parts}
use Rattle.trie_core.proofs.lent_frame.branch_parts.Goals as goal

pub returns : goal.returns
returns g c = same_parts (c.new-values.ensures ∙ ap (placed c.branch.inside.value_bits) c.values.ensures) (c.new-children.ensures ∙ ap (placed c.branch.inside.child_bits) c.children.ensures) (are_parts (seen c.branch.invariant c.branch.view_is))
