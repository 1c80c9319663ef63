use Rattle.std.proofs.Common.{◌≡◌, ℕ, ◌+◌, ◌^◌, ◌<◌, List, option_copied, ap, sym, ◌∙◌, arith}
use Rattle.std.proofs.lemmas.Option.{IfSome_then}
use Rattle.hop_index.specs.Ranges.{HopRange}
use Rattle.hop_index.specs.InnerNodes.{cell_by}
use Rattle.hop_index.specs.InnerRanges.{range_at}
use Rattle.hop_index.proofs.Divisions.{hop_leads, one_hop}
use Rattle.hop_index.proofs.nodes.Nodes.hop_entry.Goals as goal
use Rattle.hop_index.proofs.nodes.Nodes.hop_entry.Goals.{else-last-to_bits-via-then-last-to_bits+else-cell_by-cell, else-last-to_bits-via-else-last-to_bits}

pub returns : goal.returns
returns g c =
    let rs : List HopRange = c.args.self.now.ranges in
    let cell : ℕ → ℕ = cell_by g.N.Key.width (option_copied c.args.tops) c.args.node.now in
    let last : ℕ = (range_at rs c.args.place).last in
    let bits : c.to_bits-last.result ≡ last = c.to_bits-last.ensures.value ∙ c.last.ensures in
    let later : last + 1 < 2 ^ g.N.Key.width → c.args.cell < cell (last + 1) = λ l. elim c.else-last-to_bits.branch [
      | else-last-to_bits-via-then-last-to_bits+else-cell_by-cell w ↦
          let next : g.N.Key.number w.from_bits.result ≡ last + 1 = ap g.N.Key.number w.from_bits.ensures ∙ (rw bits (g.met.N.Key.numbered (last + 1) l)) in
          omega (arith, rw next at w.cell_by.ensures.cell, w.if-cell_by-cell.false)
      | else-last-to_bits-via-else-last-to_bits w ↦ absurd (omega (arith, w.if-last-to_bits.false, c.to_bits.ensures.value, c.highest.ensures, bits))
    ] in
    IfSome_then c.entry_of.result c.entry_of.ensures (λ e told nodes x high x_in same b. hop_leads nodes rs x e told.0 (one_hop g.N.Key.width (option_copied c.args.tops) c.requires.tops c.args.node.now rs c.requires.ranges c.args.place c.args.cell x high (omega (arith, c.if-place-len.false, c.len.ensures)) later x_in same b ∙ (sym c.hop.ensures ∙ sym told.1)))
