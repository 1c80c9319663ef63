use Rattle.std.proofs.Common.{◌∙◌, ap, length, subst, sym, arith}
use Rattle.trie_core.specs.InnerPlaces.{place_string}
use Rattle.trie_core.specs.Prefixes.{prefix_bits, IsMasked}
use Rattle.trie_core.proofs.PlaceTables.{number_of_place}
use Rattle.trie_core.proofs.Longer.{numbered}
use Rattle.trie_core.proofs.Numbers.{place_strings, number_bound}
use Rattle.trie_core.proofs.tables.first_child.Goals as goal

pub returns-clause-value : goal.returns-clause-value
returns-clause-value c = number_of_place c.args.place c.requires

pub returns-clause-bits : goal.returns-clause-bits
returns-clause-bits c =
    let s = place_string c.args.place in
    ap (λ n. prefix_bits 5 n (length s)) (number_of_place c.args.place c.requires) ∙ (numbered 5 s (omega (arith, (place_strings c.args.place c.requires).short))).bits

pub returns-clause-masked : goal.returns-clause-masked
returns-clause-masked c =
    let s = place_string c.args.place in
    subst (λ n. IsMasked 5 n (length s)) (sym (number_of_place c.args.place c.requires)) (numbered 5 s (omega (arith, (place_strings c.args.place c.requires).short))).masked

pub returns-clause-below : goal.returns-clause-below
returns-clause-below c = omega (arith, number_of_place c.args.place c.requires, number_bound 5 (place_string c.args.place))
