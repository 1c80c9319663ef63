use Rattle.std.proofs.Common.{◌≡◌, ℕ, ◌^◌, ◌<◌, ◌≤◌, List, option_copied, refl, sym, ◌∙◌, arith}
use Rattle.hop_index.specs.Ranges.{HopRange}
use Rattle.hop_index.specs.InnerRanges.{ArePadded, IsBetween}
use Rattle.hop_index.specs.InnerNodes.{AreNodes, Leads, StoredNode, cell_by}
use Rattle.hop_index.proofs.Divisions.{cell_by_ascends, few_lead, leads_more, led_on}
use Rattle.hop_index.proofs.nodes.Nodes.+entries.Goals as goal
use Rattle.hop_index.proofs.nodes.Nodes.+entries.Goals.{in-Some, in_default+then-next-place, in_default+else-next-place+then-levels-eq0+in_ok-entry, in_default+else-next-place+else-levels-eq0+in_ok-inside+in_ok-entry-2}

pub returns-clause-entries : goal.returns-clause-entries
returns-clause-entries g t c =
    let end : ℕ = 2 ^ g.N.Key.width in
    let cell : ℕ → ℕ = cell_by g.N.Key.width (option_copied c.args.tops) c.args.node.now in
    rw (sym c.loop-cell.invariant.ranges) (λ x l.
    let top : ℕ = g.N.Key.number c.highest.result in
    let u : cell x ≤ cell top = cell_by_ascends g.N.Key.width (option_copied c.args.tops) c.requires.tops c.args.node.now x top (omega (arith, c.highest.ensures)) (omega (arith, c.highest.ensures)) in
    let w : cell x < c.loop-cell.cell = omega (arith, c.cell_by-end.ensures.cell, c.loop-cell-test.false) in
    (omega (arith, c.loop-cell.invariant.led.all), c.loop-cell.invariant.led.leads x w l))

pub add-requires-clause-entries : goal.add-requires-clause-entries
add-requires-clause-entries g t c = λ d before after.
    let e = c.in_ok-inside.ensures in
    rw (e.ranges, c.as_slice.ensures.value) (λ x l. ((e.entries x l).0, λ b. leads_more c.entries.new.self.nodes.items d c.loop-cell.self.ranges x _ ((e.entries x l).1 b)))

pub loop-cell-preserved : goal.loop-cell-preserved
loop-cell-preserved g t c =
    let rs : List HopRange = c.loop-cell.self.ranges in
    let end : ℕ = 2 ^ g.N.Key.width in
    let old : List StoredNode = c.loop-cell.self.nodes.items in
    let place : ℕ = c.loop-cell.place in
    let next : ℕ = c.after_cell-next.result in
    let i = c.loop-cell.invariant in
    let s = c.after_cell-next.ensures in
    let padded : ArePadded rs end = rw i.ranges c.requires.ranges in
    let cell : ℕ → ℕ = cell_by g.N.Key.width (option_copied c.args.tops) c.args.node.now in
    let step : (c.match-hop_entry.self.ranges ≡ rs) × AreNodes rs end c.match-hop_entry.self.nodes.items c.match-hop_entry.self.cells.items
    × ((x e : ℕ) → Leads old rs x e → Leads c.match-hop_entry.self.nodes.items rs x e) × ((x : ℕ) → x < end → cell x ≡ c.loop-cell.cell → IsBetween rs x place next → Leads c.match-hop_entry.self.nodes.items rs x c.match-hop_entry.entry) =
    elim c.match-hop_entry.branch [
      | in-Some w ↦ rw (w.self-is, w.entry-is) (refl, i.nodes, (λ x e h. h), (λ x l is b. (rw w.in-Some.is at c.hop_entry.ensures) old x next l is b))
      | in_default+then-next-place w ↦ rw (w.self-is, w.entry-is) (refl, i.nodes, (λ x e h. h), (λ x l is b. few_lead old rs end x place next padded l (rw i.ranges c.requires.few) (omega (arith, w.if-next-place.true)) b))
      | in_default+else-next-place+then-levels-eq0+in_ok-entry w ↦ let e = w.in_ok-entry.ensures in rw (w.self-is, w.entry-is) (e.ranges, rw e.ranges at e.nodes, e.kept, (λ x l is b. e.leads x b))
      | in_default+else-next-place+else-levels-eq0+in_ok-inside+in_ok-entry-2 w ↦
          let e = w.in_ok-inside.ensures in
          let f = w.in_ok-entry-2.ensures in
          rw (w.self-is, w.entry-is) (f.ranges ∙ e.ranges, rw (f.ranges ∙ e.ranges) at f.nodes, (λ x v h. (rw e.ranges at f.kept) x v (e.kept x v h)), (λ x l is b. (rw (e.ranges, w.over-inner.ensures.before, w.over-inner.ensures.after) at f.leads) x b))
    ] in
    rw (step.0, c.in_ok-push.ensures.items) (record {
      ranges = i.ranges;
      nodes = step.1;
      kept = λ x e h. step.2 x e (i.kept x e h);
      led = led_on g.N.Key.width (option_copied c.args.tops) c.requires.tops c.args.node.now rs padded (rw i.ranges c.requires.after) old c.match-hop_entry.self.nodes.items c.loop-cell.cell place next c.match-hop_entry.entry c.loop-cell.entries.items
          i.led s.least s.most s.inside s.beyond step.2 step.3;
    })
