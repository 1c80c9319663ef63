use Rattle.std.proofs.Common.{◌≡◌, ◌∷◌, ◌++◌, List, Bool, ℕ, ◌+◌, ◌*◌, ◌<◌, ◌≤◌, refl, ◌∙◌, sym, ap, subst, arith}
use prog.Memory.{up}
use Rattle.std.specs.FinMap.{get, get-empty, empty}
use Rattle.ipnet_blocks.specs.BitStrings.{bits_cmp}
use Rattle.ipnet_blocks.specs.Networks.{block_of}
use Rattle.trie_core.specs.Inside.{NothingInside}
use Rattle.trie_core.specs.Nodes.{BitMap}
use Rattle.prefix_trie.specs.Seen.{SeenMap}
use Rattle.route_choices.specs.Choices.{Choice}
use Rattle.route_table.specs.InnerFamilyTables.{IsStored}
use Rattle.route_laws.specs.Networks.{with_choices}
use Rattle.route_table.proofs.FamilyMap.{is_side}
use Rattle.route_table.proofs.FamilyTables.{leaf_at}
use Rattle.route_table.proofs.Searches.{at_key}
use Rattle.route_table.proofs.Stores.{put_choices, put_is_stored}
use Rattle.route_table.proofs.family_table.FamilyTable.store.Goals as goal

-- room for at most eight routes is less than an address can tell
room_fits : (n : ℕ) → n ≤ 8 → up 1 (0 + n * 7) < 9223372036854775808
room_fits n h = omega (arith, h)

-- nothing is inside a prefix in an empty set
none_inside : (m : BitMap Unit) (q : List Bool) → m ≡ empty → NothingInside m q
none_inside m q e b k = ap (λ s. get s (q ++ b ∷ k)) e ∙ get-empty bits_cmp (q ++ b ∷ k)

pub one-choices-requires : goal.one-choices-requires
one-choices-requires g c = (room_fits _ c.self.invariant.3, c.self.invariant.2)

pub insert_is_leaf-requires : goal.insert_is_leaf-requires
insert_is_leaf-requires g c = g.met.P.FamilyNet.always_fits c.args.net

pub returns-in-Err-clause-side : goal.returns-in-Err-clause-side
returns-in-Err-clause-side g c = is_side _ _ (subst (λ (h : SeenMap (List Choice)). IsStored g.P.FamilyNet.family h.entries) (sym c.in-Err.ensures.unchanged) c.self.invariant.0)

pub returns-in-Err-clause-absent : goal.returns-in-Err-clause-absent
returns-in-Err-clause-absent g c = at_key _ c.requires _ c.self.invariant.0 _ c.self.view_is _ (g.met.P.FamilyNet.bits_are c.args.net) _ (sym c.in-Err.ensures.absent)

pub invariant_of-self-2 : goal.invariant_of-self-2
invariant_of-self-2 g c = (put_is_stored (block_of g.P.FamilyNet.family (g.P.FamilyNet.parts c.args.net)) c.requires _ c.self.invariant.0 _ c.one-choices.result c.one-choices.ensures.are (λ e. let f = sym c.one-choices.ensures.choices ∙ e in cc) _ (g.met.P.FamilyNet.bits_are c.args.net) c.in-Ok.ensures.map, c.in-Ok.ensures.tidy c.self.invariant.1, c.self.invariant.2, c.self.invariant.3)

pub returns-clause-networks : goal.returns-clause-networks
returns-clause-networks g c =
    put_choices (block_of g.P.FamilyNet.family (g.P.FamilyNet.parts c.args.net)) c.requires _ c.self.invariant.0 _ c.one-choices.result c.one-choices.ensures.are (λ e. let f = sym c.one-choices.ensures.choices ∙ e in cc) _ (g.met.P.FamilyNet.bits_are c.args.net) c.in-Ok.ensures.map
    ∙ (λ i. with_choices (c.self.view_is i) (block_of g.P.FamilyNet.family (g.P.FamilyNet.parts c.args.net)) (c.one-choices.ensures.choices i))

pub returns-clause-side : goal.returns-clause-side
returns-clause-side g c = is_side _ _ (invariant_of-self-2 g c).0

pub returns-clause-leaf : goal.returns-clause-leaf
returns-clause-leaf g c =
    let i = invariant_of-self-2 g c in
    let m = leaf_at _ c.requires _ i.0 _ refl _ (g.met.P.FamilyNet.bits_are c.args.net) in
    (λ t. m.0 (c.in-Ok.ensures.leaf.0 t).0, λ l. c.in-Ok.ensures.leaf.1 (m.1 l, none_inside _ _ i.1))
