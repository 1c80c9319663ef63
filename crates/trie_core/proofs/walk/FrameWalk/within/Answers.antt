use Rattle.std.proofs.Common.{◌∙◌, ◌≤◌, sym, ap, subst, length, arith}
use Rattle.std.specs.FinMap.{entries}
use Rattle.ipnet_blocks.specs.BitStrings.{begins}
use Rattle.trie_core.specs.InnerNodes.{under}
use Rattle.trie_core.specs.InnerWalks.{KeysWithin}
use Rattle.trie_core.proofs.Frames.{keys_where}
use Rattle.std.proofs.lemmas.Bool.Decides.{nat_tests}
use Rattle.trie_core.proofs.Walks.{start_way, way_below, way_none, five_bits}
use Rattle.trie_core.proofs.walk.FrameWalk.within.Goals as goal

pub way-init : goal.way-init
way-init g c = start_way c.requires.levels c.requires.keys c.requires.within c.new-trail.ensures

pub returns-in-None : goal.returns-in-None
returns-in-None g c =
    let h : 5 ≤ length c.way.path = grind (arith, nat_tests) in
    c.default.ensures ∙ sym (way_none c.way.invariant h c.in-None.ensures)

pub with-trail-requires-clause-room : goal.with-trail-requires-clause-room
with-trail-requires-clause-room g c =
    let h : 5 ≤ length c.way.path = grind (arith, nat_tests) in
    omega (arith, h, c.way.invariant.within)

pub with-trail-requires-clause-within : goal.with-trail-requires-clause-within
with-trail-requires-clause-within g c =
    let h : 5 ≤ length c.way.path = grind (arith, nat_tests) in
    omega (arith, h, c.way.invariant.within)

pub way-preserved : goal.way-preserved
way-preserved g c =
    let h : 5 ≤ length c.way.path = grind (arith, nat_tests) in
    way_below c.way.invariant h c.in-Some.ensures (five_bits c.way.trail c.way.path h c.five.ensures.value c.with-trail.ensures) c.rest-path.ensures

pub start-requires-clause-levels : goal.start-requires-clause-levels
start-requires-clause-levels g c = omega (arith, c.inside.ensures.levels, c.way.invariant.place.fewer, c.requires.levels)

pub start-requires-clause-reach : goal.start-requires-clause-reach
start-requires-clause-reach g c = omega (arith, c.way.invariant.place.levels, c.inside.ensures.levels)

pub start-requires-clause-keys : goal.start-requires-clause-keys
start-requires-clause-keys g c = subst (λ es. KeysWithin 128 (under c.way.trail es)) (sym c.inside.ensures.rest) (keys_where 128 c.way.trail (begins c.way.path) (entries (g.S.Frame.Frame.seen c.way.node).entries) c.way.invariant.place.keys)

pub returns : goal.returns
returns g c = c.start.ensures ∙ ap (under c.way.trail) c.inside.ensures.rest ∙ c.way.invariant.inside
