use Rattle.std.proofs.Common.{rules, ℕ, ◌+◌, ◌<◌, get_or, arith}
use Rattle.std.proofs.lemmas.List.Elements.{All-push}
use Rattle.std.proofs.lemmas.List.Quantifiers.{all_pairs_push}
use Rattle.hop_index.proofs.cells.tops_of.Goals as goal

pub loop-chunk-preserved : goal.loop-chunk-preserved
loop-chunk-preserved g c =
    let i = c.loop-chunk.invariant in
    let more = c.cells_of-first.ensures in
    rw c.in_ok-push.ensures.items (record {
      all = search (rules);
      within = c.after_chunk-next.ensures.most;
      few = omega (arith, c.after_chunk-next.ensures.least, i.few, more.few);
      below = All-push (λ t. t < c.loop-chunk.first + c.cells_of-first.result) c.loop-chunk.tops.items c.loop-chunk.first (λ k d l. let b : get_or c.loop-chunk.tops.items k d < c.loop-chunk.first = i.below k d l in omega arith) (omega (arith, more.some));
      rising = all_pairs_push (λ (a b : ℕ). a < b) c.loop-chunk.tops.items c.loop-chunk.first i.rising i.below;
    })
