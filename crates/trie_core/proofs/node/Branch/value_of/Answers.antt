use Rattle.std.proofs.Common.{sym}
use Rattle.trie_core.specs.InnerPlaces.{place_string}
use Rattle.trie_core.proofs.Numbers.{place_strings}
use Rattle.trie_core.proofs.Seen.{seen}
use Rattle.trie_core.proofs.Lent.{stored_here, value_slot, value_here}
use Rattle.trie_core.proofs.node.Branch.value_of.Goals as goal

pub unreachable-requires : goal.unreachable-requires
unreachable-requires g c =
    let p = place_strings c.args.place c.requires.below in
    stored_here (place_string c.args.place) (seen c.self.invariant c.self.view_is) p.short (sym p.place) c.in_default.ensures c.requires.stored

pub value-requires : goal.value-requires
value-requires g c =
    let p = place_strings c.args.place c.requires.below in
    (value_slot (place_string c.args.place) (seen c.self.invariant c.self.view_is) p.short (sym p.place) c.in-Some.ensures).within

pub returns : goal.returns
returns g c =
    let p = place_strings c.args.place c.requires.below in
    let s = seen c.self.invariant c.self.view_is in
    value_here (place_string c.args.place) c.value.result.now s p.short (sym p.place) (value_slot (place_string c.args.place) s p.short (sym p.place) c.in-Some.ensures) c.value.ensures
