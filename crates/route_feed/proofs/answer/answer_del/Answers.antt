use Rattle.std.proofs.Common.{◌≡◌, sym, ◌∙◌, true, false}
use Rattle.ipnet.specs.IpNets.{block}
use Rattle.route_choices.specs.Choices.{choices_without, holds_hop}
use Rattle.route_choices.proofs.ChoiceLists.{without_are}
use Rattle.route_laws.specs.Networks.{choices_at}
use Rattle.route_laws.proofs.Networks.{at_are}
use Rattle.route_feed.proofs.AnsweredChanges.{Closes-change, held_is, none_left}
use Rattle.route_feed.proofs.answer.answer_del.Goals as goal

pub returns-in-Some : goal.returns-in-Some
returns-in-Some g c =
    let M = c.args.table.now in
    let b = block c.args.net in
    let e = c.in-Some.ensures in
    let held : holds_hop (choices_at M b) c.args.hop ≡ true = sym e.stored in
    let cs = choices_without (choices_at M b) c.args.hop in
    let are = without_are (choices_at M b) (at_are M e.tables.0 b) c.args.hop in
    record {
      refused = false;
      reply = rw held (Closes-change M e.tables.0 b (held_is M e.tables.0 b c.args.hop held) cs are g.W.Write.contents c.del.new.self e.networks c.in-Some.before c.in-Some.after e.hops.0 e.hops.1 c.args.writer.now c.tell_change.new.writer c.tell_change.result c.tell_change.ensures.same c.tell_change.ensures.differs);
      table = rw held e.networks;
    }

pub returns-in-None : goal.returns-in-None
returns-in-None g c =
    let M = c.args.table.now in
    let e = c.in-None.ensures in
    let none : holds_hop (choices_at M (block c.args.net)) c.args.hop ≡ false = sym e.stored in
    record {
      refused = false;
      reply = rw none c.close.ensures;
      table = rw none (e.networks ∙ none_left M e.tables.0 (block c.args.net) c.args.hop none);
    }
