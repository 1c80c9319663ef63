use Rattle.std.proofs.Common.{◌∙◌, ap, sym, arith}
use Rattle.shape.specs.Shapes.{items_of}
use Rattle.std.proofs.lemmas.Bool.Decides.{nat_tests}
use Rattle.trie_core.specs.InnerPlaces.{first_place_of}
use Rattle.trie_core.proofs.Splits.{first_is, none_is}
use Rattle.trie_core.proofs.lent_places.LentPlaces.first_place.Goals as goal

pub returns : goal.returns
returns g c = sym (first_is c.first_place.result c.self.inside.taken (items_of c.self.inside.items) c.first_place.ensures c.self.invariant (grind (arith, nat_tests))) ∙ ap first_place_of c.self.view_is

pub returns-then-self-eq0 : goal.returns-then-self-eq0
returns-then-self-eq0 g c = sym (none_is c.self.inside.taken (items_of c.self.inside.items) (grind (arith, nat_tests)) c.self.invariant) ∙ ap first_place_of c.self.view_is
