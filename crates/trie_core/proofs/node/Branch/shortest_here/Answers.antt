use Rattle.std.proofs.Common.{◌≡◌, bit_and, arith}
use Rattle.std.proofs.lemmas.Bool.Decides.{nat_tests}
use Rattle.trie_core.proofs.Seen.{seen}
use Rattle.trie_core.proofs.Searches.{none_here, index_here, shortest_here}
use Rattle.trie_core.proofs.node.Branch.shortest_here.Goals as goal

pub returns-then-found-eq0 : goal.returns-then-found-eq0
returns-then-found-eq0 g c =
    let z : bit_and c.self.inside.value_bits c.beginnings.result ≡ 0 = grind (arith, nat_tests) in
    none_here c.args.path.now c.beginnings.result (seen c.self.invariant c.self.view_is) c.beginnings.ensures.mask z

pub place_length-requires : goal.place_length-requires
place_length-requires g c = (index_here c.args.path.now c.beginnings.result c.first_place-place.result c.taken_below-at.result (seen c.self.invariant c.self.view_is) c.beginnings.ensures.mask c.first_place-place.ensures.taken c.taken_below-at.ensures).1

pub value-requires : goal.value-requires
value-requires g c = (index_here c.args.path.now c.beginnings.result c.first_place-place.result c.taken_below-at.result (seen c.self.invariant c.self.view_is) c.beginnings.ensures.mask c.first_place-place.ensures.taken c.taken_below-at.ensures).0

pub returns : goal.returns
returns g c = shortest_here c.args.path.now c.beginnings.result c.first_place-place.result c.taken_below-at.result c.place_length.result c.value.result.now (seen c.self.invariant c.self.view_is) c.beginnings.ensures.mask c.first_place-place.ensures c.taken_below-at.ensures c.place_length.ensures.value c.value.ensures
