use Rattle.std.proofs.Common.{◌<◌, ◌∙◌, ap, cond, length, sym, arith}
use Rattle.route_table.proofs.Outcomes.{when_err}
use Rattle.std.proofs.lemmas.List.{take-map}
use Rattle.ipnet.specs.IpNets.{block}
use Rattle.ipnet_blocks.specs.Blocks.{has_address}
use Rattle.route_choices.specs.Hops.{number_of}
use Rattle.route_laws.specs.Networks.{routes_of}
use Rattle.route_laws.specs.Tables.{hop_at}
use Rattle.route_feed.specs.InnerWaiting.{waiting_change}
use Rattle.route_feed.specs.Streams.{painted_over}
use Rattle.route_feed.proofs.Carried.{one_more}
use Rattle.route_feed.proofs.follower.carry_out.Goals as goal

pub loop-change-preserved : goal.loop-change-preserved
loop-change-preserved c = λ x a.
    let it = c.change-item.result in
    let i = c.loop-change.change-index in
    let within : i < length c.args.changes.now = omega arith in
    c.in_ok-overwrite.ensures.hops x a
    ∙ ap (λ o. cond (has_address (block it.0) x) (number_of it.1) o) (c.loop-change.invariant x a)
    ∙ one_more (hop_at (routes_of c.args.table.now) x) c.args.changes.now i it x within c.change-item.is

-- the changes before the one that was refused are carried out, and the table has just these
pub returns-in_err-overwrite-clause-first : goal.returns-in_err-overwrite-clause-first
returns-in_err-overwrite-clause-first c =
    let i = c.loop-change.change-index in
    when_err c.from_residual.result (record {
      carried = i;
      hops = λ x a.
          ap (λ t. hop_at (routes_of t) x) c.in_err-overwrite.ensures.unchanged
          ∙ c.loop-change.invariant x a
          ∙ ap (λ l. painted_over (hop_at (routes_of c.args.table.now) x) l x) (sym (take-map waiting_change i c.args.changes.now));
    })
