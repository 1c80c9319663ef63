use Rattle.std.proofs.Common.{◌∙◌, [], ap, refl}
use Rattle.trie_core.specs.InnerPlaces.{placed}
use Rattle.trie_core.proofs.Splits.{placed_none}
use Rattle.trie_core.proofs.lent_places.LentPlaces.none.Goals as goal

pub returns : goal.returns
returns g c = ap (placed 0) c.none.ensures ∙ placed_none 0 [] refl
