use Rattle.std.proofs.Common.{rules, ◌≡◌, ℕ, ◌+◌, ◌<◌, ◌≤◌, List, subst, arith}
use Rattle.hop_index.specs.Ranges.{HopRange}
use Rattle.hop_index.specs.InnerRanges.{head_of, range_at}
use Rattle.hop_index.proofs.Searches.{below_by_head, from_head, head_ascends, lowered, no_lower, raised}
use Rattle.hop_index.proofs.ranges.Ranges.among_four.Goals as goal
use Rattle.hop_index.proofs.ranges.Ranges.among_four.Goals.{then-head, else-head, then-width-le64-via-then-width-le64, then-width-le64-via-else-width-le64+then-count-low, then-width-le64-via-else-width-le64+else-count-low+then-head-2}

pub loop-step-preserved : goal.loop-step-preserved
loop-step-preserved g c =
    let rs : List HopRange = c.args.self.now in
    let y : ℕ = g.N.Key.number c.args.number in
    let count : ℕ = c.loop-step.count in
    let at : ℕ = c.args.low + c.loop-step.step in
    let i = c.loop-step.invariant in
    let within = c.requires.between.within in
    elim c.if-head.branch [
      | then-head w ↦
          let less : head_of g.N.Key.width (range_at rs at).last < head_of g.N.Key.width y = omega (arith, w.if-head.true, c.head.ensures, c.head-head.ensures.head) in
          let later : head_of g.N.Key.width (range_at rs count).last ≤ head_of g.N.Key.width (range_at rs at).last = head_ascends g.N.Key.width _ _ (no_lower rs c.requires.ascending count at i.most (omega arith)) in
          let same : count ≡ at = grind (arith, i.from, i.most) in
          rw w.count-is (record {
            most = omega arith;
            between = raised rs y count (c.args.low + 4) (count + 1) (omega arith) (λ k from to. let here : at ≡ k = omega arith in subst (λ m. (range_at rs m).last < y) here (below_by_head g.N.Key.width _ y less)) i.between;
            from = λ more. absurd (omega arith);
          })
      | else-head w ↦
          let here : head_of g.N.Key.width y ≤ head_of g.N.Key.width (range_at rs at).last = omega (arith, w.if-head.false, c.head.ensures, c.head-head.ensures.head) in
          let from : count < at + 1 → head_of g.N.Key.width y ≤ head_of g.N.Key.width (range_at rs count).last = λ more. grind (arith, i.from, i.most, here) in
          rw w.count-is (search (rules, from))
    ]

pub returns-then-width-le64 : goal.returns-then-width-le64
returns-then-width-le64 g c =
    let rs : List HopRange = c.args.self.now in
    let y : ℕ = g.N.Key.number c.args.number in
    let count : ℕ = c.loop-step.count in
    let last : ℕ = (range_at rs count).last in
    let i = c.loop-step.invariant in
    lowered rs c.requires.ascending y count (c.args.low + 4) count (omega arith) i.between.order (λ less. elim c.then-width-le64.branch [
      | then-width-le64-via-then-width-le64 w ↦ from_head g.N.Key.width y last (omega (arith, w.if-width-le64.true, c.width.ensures)) (i.from (omega arith))
      | then-width-le64-via-else-width-le64+then-count-low w ↦ absurd (omega (arith, w.if-count-low.true))
      | then-width-le64-via-else-width-le64+else-count-low+then-head-2 w ↦
          let above : y < last = below_by_head g.N.Key.width y last (omega (arith, w.if-head-2.true, w.head-else-count-low.ensures, c.head-head.ensures.head)) in
          omega arith
    ]) i.between
