use Rattle.std.proofs.Common.{◌∙◌, [], length, ap, sym, refl}
use Rattle.shape.specs.OwnedValues.{owned_values}
use Rattle.trie_core.specs.InnerPlaces.{placed}
use Rattle.trie_core.proofs.Splits.{alone}
use Rattle.trie_core.proofs.owned_frame.OwnedPlaces.new.Goals as goal

pub returns-in-One : goal.returns-in-One
returns-in-One g c = sym (ap (λ v. placed c.args.taken (owned_values v)) c.in-One.is ∙ alone c.first_place.result c.args.taken c.in-One.value [] c.first_place.ensures (c.requires ∙ ap (λ v. length (owned_values v)) c.in-One.is) refl)
