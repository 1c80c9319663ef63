use Rattle.std.proofs.Common.{◌≡◌, ◌-◌, bit_and, arith}
use Rattle.std.proofs.lemmas.Bool.Decides.{nat_tests}
use Rattle.trie_core.proofs.Seen.{seen}
use Rattle.trie_core.proofs.Covers.{none_from, met_from, first_from, index_from}
use Rattle.trie_core.proofs.cover.beginning_from.Goals as goal

pub returns-then-found-eq0 : goal.returns-then-found-eq0
returns-then-found-eq0 g c =
    let z : bit_and c.branch.inside.value_bits c.beginnings.result - c.low_bits.result ≡ 0 = grind (arith, nat_tests) in
    none_from c.args.path.now c.beginnings.result c.args.place c.low_bits.result (seen c.branch.invariant c.branch.view_is) c.beginnings.ensures.mask c.low_bits.ensures z

pub value-requires : goal.value-requires
value-requires g c =
    let k = met_from c.args.path.now c.beginnings.result c.args.place c.low_bits.result c.first_place-next.result (seen c.branch.invariant c.branch.view_is) c.beginnings.ensures.mask c.low_bits.ensures c.first_place-next.ensures in
    index_from c.args.path.now c.taken_below-at.result c.first_place-next.result (seen c.branch.invariant c.branch.view_is) k.0 c.taken_below-at.ensures

pub returns : goal.returns
returns g c = first_from c.args.path.now c.beginnings.result c.args.place c.low_bits.result c.first_place-next.result c.taken_below-at.result c.value.result.now (seen c.branch.invariant c.branch.view_is) c.beginnings.ensures.mask c.low_bits.ensures c.first_place-next.ensures c.taken_below-at.ensures c.value.ensures
