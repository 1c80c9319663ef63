use Rattle.std.proofs.Common.{false, subst, Some}
use Rattle.ipnet.specs.IpNets.{block}
use Rattle.route_lines.specs.declared.command.Command.TheVariants.{Add}
use Rattle.route_choices.specs.Choices.{Choice, choices_with}
use Rattle.route_laws.specs.Networks.{IsStoredTable, choices_at}
use Rattle.route_laws.proofs.Networks.{with_some}
use Rattle.route_feed.proofs.AnsweredChanges.{Closes-change, changed_is, plain_step, refused_step}
use Rattle.route_feed.proofs.answer.answer_add.Goals as goal

pub returns-in-Ok : goal.returns-in-Ok
returns-in-Ok g c =
    let M = c.args.table.now in
    let b = block c.args.net in
    let d : Choice = record { hop = c.args.hop; pref = c.args.pref } in
    let cs = choices_with (choices_at M b) d in
    let e = c.in-Ok.ensures in
    let new = changed_is M b cs (with_some (choices_at M b) d) (subst IsStoredTable e.networks e.tables.1) in
    let same = plain_step M (Some (Add c.args.net c.args.hop c.args.pref)) e.room in
    record {
      refused = false;
      reply = rw same (Closes-change M e.tables.0 b new.0 cs new.1 g.W.Write.contents c.add_is_leaf.new.self e.networks c.in-Ok.before c.in-Ok.after e.hops.0 e.hops.1 c.args.writer.now c.tell_change.new.writer c.tell_change.result c.tell_change.ensures.same c.tell_change.ensures.differs);
      table = rw same e.networks;
    }

pub returns-in-Err : goal.returns-in-Err
returns-in-Err g c =
    let e = c.in-Err.ensures in
    let (refusal, is) = refused_step c.args.table.now c.args.net c.args.hop c.args.pref c.in-Err.field-0 e.refused in
    record { refused = refusal; reply = rw is c.close.ensures; table = rw is e.unchanged }
