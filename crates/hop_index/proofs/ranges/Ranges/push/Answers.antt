use Rattle.std.proofs.Common.{◌≡◌, ◌++◌, [], ◌∷◌, ap, ◌∙◌, length}
use Rattle.hop_index.specs.InnerRanges.{hop_of_mark, map_at, whole_range}
use Rattle.hop_index.proofs.Marks.{push_at, stored_hop}
use Rattle.hop_index.proofs.ranges.Ranges.push.Goals as goal

pub returns : goal.returns
returns g c =
    let join = g.N.Stored.joined in
    let place : c.len-place.result ≡ length c.self.inside.ranges.items = c.len-place.ensures ∙ c.self.inside.ranges.ok.0 in
    let rests = rw place at c.in_ok-store.ensures in
    let marks = rw place at c.in_ok-store-2.ensures in
    let last = ap (join c.parts-front.result.0) rests.value ∙ c.parts-front.ensures.joined in
    let hop = (λ i. hop_of_mark (c.unwrap_or-hop.ensures i) ((marks.value ∙ c.eq-mark.ensures) i)) ∙ stored_hop c.args.hop in
    ap (map_at (whole_range join c.store.new.stored.items c.store-2.new.stored.items)) c.in_ok-push.ensures.items
    ∙ push_at (whole_range join c.self.inside.rests.items c.self.inside.marks.items) _ c.self.inside.ranges.items _ (λ k r l i. record { last = join r.front (rests.others k l i); hop = hop_of_mark r.hop (marks.others k l i) })
    ∙ λ i. c.self.view_is i ++ record { last = last i; hop = hop i } ∷ []
