use Rattle.std.proofs.Common.{◌∙◌, ap, sym, arith}
use Rattle.hop_index.specs.Ranges.{hop_in}
use Rattle.hop_index.specs.InnerNodes.{Divided}
use Rattle.hop_index.proofs.Searches.{before_pads, found}
use Rattle.hop_index.proofs.lookups.Lookups.hop.Goals as goal

pub hop-requires : goal.hop-requires
hop-requires g c = let h = before_pads c.self.inside.nodes.ranges _ _ c.ended.result _ c.self.invariant.1 c.requires.number c.ended.ensures in omega (arith, h)

pub returns : goal.returns
returns g c = let h = before_pads c.self.inside.nodes.ranges _ _ c.ended.result _ c.self.invariant.1 c.requires.number c.ended.ensures in c.hop.ensures ∙ sym (found c.self.inside.nodes.ranges c.ended.result _ (omega (arith, h)) c.ended.ensures) ∙ ap (λ (v : Divided). hop_in v.ranges (g.N.Key.number c.args.number)) c.self.view_is
