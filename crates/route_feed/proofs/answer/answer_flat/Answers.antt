use Rattle.std.proofs.Common.{false, refl}
use Rattle.route_laws.specs.Networks.{routes_of}
use Rattle.route_feed.proofs.AnsweredChanges.{flat_is}
use Rattle.route_feed.proofs.answer.answer_flat.Goals as goal

pub returns : goal.returns
returns g c =
    let same = flat_is (routes_of c.args.table.now) c.flat.result c.flat.ensures.flat in
    record { refused = false; reply = rw (← same) c.reply.ensures; table = refl }
