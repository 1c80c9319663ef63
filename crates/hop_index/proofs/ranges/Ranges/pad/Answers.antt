use Rattle.std.proofs.Common.{◌^◌, ◌<◌, List, None, ◌∙◌, arith}
use Rattle.std.proofs.lemmas.List.Elements.{All-push}
use Rattle.std.proofs.lemmas.List.{get_or_append_left, get_or_push, length_push}
use Rattle.hop_index.specs.Ranges.{HopRange}
use Rattle.hop_index.proofs.Searches.{below_later, push_ascends, push_none}
use Rattle.hop_index.proofs.ranges.Ranges.pad.Goals as goal

pub loop-preserved : goal.loop-preserved
loop-preserved g c =
    let rs : List HopRange = c.loop.self in
    let r : HopRange = record { last = g.N.Key.number c.highest.result; hop = None } in
    let highest = c.highest.ensures in
    let i = c.loop.invariant in
    rw c.in_ok-push.ensures (record {
      ascending = push_ascends rs r i.ascending (below_later rs _ _ (omega arith) i.within);
      within = All-push (λ s. s.last < 2 ^ g.N.Key.width) rs r i.within (omega arith);
      all = omega (arith, i.all, length_push rs r);
      pads = λ some. grind (arith, highest, i.pads, i.all, get_or_append_left, get_or_push);
      hops = λ x. push_none rs r.last x ∙ i.hops x;
    })
