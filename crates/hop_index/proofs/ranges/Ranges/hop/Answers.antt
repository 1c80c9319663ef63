use Rattle.std.proofs.Common.{None, ap, arith}
use Rattle.std.proofs.lemmas.Bool.Decides.{nat_tests}
use Rattle.hop_index.specs.Ranges.{HopRange}
use Rattle.hop_index.proofs.Marks.{read}
use Rattle.hop_index.proofs.ranges.Ranges.hop.Goals as goal
use Rattle.hop_index.proofs.ranges.Ranges.hop.Goals.{else-hop-via-then-hop+else-not-stored_at, else-hop-via-else-hop}

pub returns-then-not-stored_at : goal.returns-then-not-stored_at
returns-then-not-stored_at g c = let r = ap (λ (r : HopRange). r.hop) (read _ _ _ c.self.view_is c.args.place (record { last = 0; hop = None }) c.index.result.now c.requires c.index.ensures) in grind (arith, nat_tests, r, c.stored_at.ensures, c.deref.ensures.value)

pub returns : goal.returns
returns g c =
    let r = ap (λ (r : HopRange). r.hop) (read _ _ _ c.self.view_is c.args.place (record { last = 0; hop = None }) c.index.result.now c.requires c.index.ensures) in
    elim c.else-hop.branch [
      | else-hop-via-then-hop+else-not-stored_at w ↦ grind (arith, nat_tests, r, w.stored_at.ensures, w.deref.ensures.value, w.if-not-stored_at.false)
      | else-hop-via-else-hop w ↦ grind (arith, nat_tests, r, w.if-hop.false)
    ]
