use Rattle.std.proofs.Common.{◌∙◌, ap, map, refl, false, sym}
use Rattle.std.proofs.lemmas.Simd.{map-map}
use Rattle.ipnet.specs.IpNets.{block}
use Rattle.route_feed.specs.InnerReplies.{own_line}
use Rattle.route_feed.proofs.answer.answer_own.Goals as goal

pub returns-in-Ok : goal.returns-in-Ok
returns-in-Ok g c =
    let ns = c.in-Ok.networks.items in
    let lines = ap (λ l. map (λ n. own_line (block n)) l) c.as_slice.ensures.value ∙ sym (map-map own_line block ns) ∙ ap (map own_line) c.in-Ok.ensures.flat in
    record { refused = false; reply = rw (← lines) c.reply.ensures; table = refl }
