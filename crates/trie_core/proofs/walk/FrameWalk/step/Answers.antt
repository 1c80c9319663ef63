use Rattle.std.proofs.Common.{◌∙◌, ◌-◌, sym, ap, subst, length, take, Some, arith}
use Rattle.trie_core.specs.InnerTrails.{along, IsWalk}
use Rattle.trie_core.specs.InnerWalks.{walk_rest, walk_weight}
use Rattle.trie_core.proofs.Trails.{given, last_frame, last_keys, one_more, taken_off, taken_frame, entry_left, below_left, nothing_left}
use Rattle.trie_core.proofs.walk.FrameWalk.step.Goals as goal

pub next-requires : goal.next-requires
next-requires g c front f e = let p = last_frame c.self.invariant e in (p.reach, last_keys c.self.invariant p)

pub invariant_of-self-in-Some-Entry : goal.invariant_of-self-in-Some-Entry
invariant_of-self-in-Some-Entry g c =
    let l = given c.in-Some-Entry.ensures c.in-Some-Entry.field-0-is in
    (entry_left _ _ _ (c.in-Some-Entry.key, g.S.Frame.Frame.value c.in-Some-Entry.value) c.self.invariant l.was l.levels l.bits l.next.1 l.is l.next.0).0

pub returns-in-Some-Entry : goal.returns-in-Some-Entry
returns-in-Some-Entry g c =
    let l = given c.in-Some-Entry.ensures c.in-Some-Entry.field-0-is in
    ap (λ s. s.0) (sym c.self.view_is) ∙ (entry_left _ _ _ (c.in-Some-Entry.key, g.S.Frame.Frame.value c.in-Some-Entry.value) c.self.invariant l.was l.levels l.bits l.next.1 l.is l.next.0).1

pub push-requires : goal.push-requires
push-requires g c =
    let l = given c.in-Some-Below.ensures c.in-Some-Below.field-0-is in
    let p = last_frame c.self.invariant l.was in
    omega (arith, one_more l.front l.after l.is, p.room, l.next.1, l.next.2)

pub invariant_of-self-in-Some-Below : goal.invariant_of-self-in-Some-Below
invariant_of-self-in-Some-Below g c =
    let l = given c.in-Some-Below.ensures c.in-Some-Below.field-0-is in
    let n = l.next in
    subst (IsWalk (g.S.FrameStack.frames c.push.new.self)) (sym c.copied-self-inside.ensures) (below_left _ _ _ (g.S.Frame.Frame.left c.in-Some-Below.below) c.self.invariant l.was l.levels l.bits n.3 l.is n.1 n.7 n.2 n.5 n.6 c.push.ensures n.0 n.4).0

pub returns-in-Some-Below : goal.returns-in-Some-Below
returns-in-Some-Below g c =
    let l = given c.in-Some-Below.ensures c.in-Some-Below.field-0-is in
    let n = l.next in
    let b = below_left _ _ _ (g.S.Frame.Frame.left c.in-Some-Below.below) c.self.invariant l.was l.levels l.bits n.3 l.is n.1 n.7 n.2 n.5 n.6 c.push.ensures n.0 n.4 in
    let fs = g.S.FrameStack.frames c.push.new.self in (
      ap (λ s. s.0) (sym c.self.view_is) ∙ b.1 ∙ ap (λ way. walk_rest (along way fs)) (sym c.copied-self-inside.ensures),
      omega (arith, ap (λ s. s.1) c.self.view_is, b.2, ap (λ way. walk_weight (along way fs)) c.copied-self-inside.ensures),
    )

pub above-self-inside-requires : goal.above-self-inside-requires
above-self-inside-requires g c = let p = last_frame c.self.invariant (given c.in-Some-Nothing.ensures c.in-Some-Nothing.field-0-is).was in omega (arith, p.reach)

pub invariant_of-self-in-Some-Nothing : goal.invariant_of-self-in-Some-Nothing
invariant_of-self-in-Some-Nothing g c =
    let l = given c.in-Some-Nothing.ensures c.in-Some-Nothing.field-0-is in
    let f = g.S.Frame.Frame.left c.in-Some.frame in
    let hs = g.S.FrameStack.frames c.pop.new.self in
    let way = c.self.inside.trail in
    let t = taken_off g.S.Frame.Frame.left (Some c.in-Some.frame) l.front l.after l.is c.in-Some.ensures in
    let b = c.bits.ensures ∙ taken_frame l.front hs l.after f l.is c.in-Some.ensures ∙ l.bits in
    let u = c.above-self-inside.ensures ∙ ap (λ k. take (length way - k) way) b in
    let n = nothing_left c.self.invariant (last_frame c.self.invariant l.was) u l.next in
    subst (λ fs. IsWalk fs c.above-self-inside.result) (sym t) n.0

pub returns-in-Some : goal.returns-in-Some
returns-in-Some g c =
    let l = given c.in-Some-Nothing.ensures c.in-Some-Nothing.field-0-is in
    let f = g.S.Frame.Frame.left c.in-Some.frame in
    let hs = g.S.FrameStack.frames c.pop.new.self in
    let way = c.self.inside.trail in
    let t = taken_off g.S.Frame.Frame.left (Some c.in-Some.frame) l.front l.after l.is c.in-Some.ensures in
    let b = c.bits.ensures ∙ taken_frame l.front hs l.after f l.is c.in-Some.ensures ∙ l.bits in
    let u = c.above-self-inside.ensures ∙ ap (λ k. take (length way - k) way) b in
    let n = nothing_left c.self.invariant (last_frame c.self.invariant l.was) u l.next in (
      ap (λ s. s.0) (sym c.self.view_is) ∙ n.1 ∙ ap (λ fs. walk_rest (along c.above-self-inside.result fs)) (sym t),
      omega (arith, ap (λ s. s.1) c.self.view_is, n.2, ap (λ fs. walk_weight (along c.above-self-inside.result fs)) (sym t)),
    )
