use Rattle.std.proofs.Common.{◌≤◌, ◌∙◌, ap, length, lit<, arith}
use Rattle.std.proofs.lemmas.Bool.Decides.{nat_tests}
use Rattle.trie_core.proofs.Walks.{five_bits}
use Rattle.trie_core.proofs.Trails.{room_left, start_going, put_going, going_below, going_none, going_end}
use Rattle.trie_core.proofs.walk.FrameWalk+T+ArrayVec+LentFrame+T+26.onwards.Goals as goal

pub way-init : goal.way-init
way-init g c = start_going c.args.inclusive c.requires.levels c.requires.keys c.requires.within c.new-trail.ensures c.new-stack.ensures

pub over-requires : goal.over-requires
over-requires g c =
    let h : 5 ≤ length c.way.path = grind (arith, nat_tests) in
    (going_none c.requires.keys c.way.invariant h c.in-None.ensures c.past.ensures.rest (put_going c.way.invariant c.past.ensures.bits c.past.ensures.positive c.past.ensures.levels c.push.ensures.items)).0

pub returns-in-None : goal.returns-in-None
returns-in-None g c =
    let h : 5 ≤ length c.way.path = grind (arith, nat_tests) in
    ap (λ w. w.0) c.over.ensures ∙ (going_none c.requires.keys c.way.invariant h c.in-None.ensures c.past.ensures.rest (put_going c.way.invariant c.past.ensures.bits c.past.ensures.positive c.past.ensures.levels c.push.ensures.items)).1

pub way-preserved : goal.way-preserved
way-preserved g c =
    let h : 5 ≤ length c.way.path = grind (arith, nat_tests) in
    going_below c.way.invariant h c.in-Some.ensures (five_bits c.way.trail c.way.path h c.five.ensures.value c.with-trail.ensures) c.rest-path.ensures c.past.ensures.rest
    (put_going c.way.invariant c.past.ensures.bits c.past.ensures.positive c.past.ensures.levels c.push.ensures.items)

pub over-requires-2 : goal.over-requires-2
over-requires-2 g c = (going_end c.requires.keys c.way.invariant c.onwards.ensures.rest (put_going c.way.invariant c.onwards.ensures.bits c.onwards.ensures.positive c.onwards.ensures.levels c.push-2.ensures.items)).0

pub returns : goal.returns
returns g c = ap (λ w. w.0) c.over-2.ensures ∙ (going_end c.requires.keys c.way.invariant c.onwards.ensures.rest (put_going c.way.invariant c.onwards.ensures.bits c.onwards.ensures.positive c.onwards.ensures.levels c.push-2.ensures.items)).1

pub push-requires : goal.push-requires
push-requires g c = (lit< tt, omega (arith, room_left c.way.invariant, c.past.ensures.positive, c.past.ensures.levels))

pub push-requires-2 : goal.push-requires-2
push-requires-2 g c = (lit< tt, omega (arith, room_left c.way.invariant, c.onwards.ensures.positive, c.onwards.ensures.levels))
