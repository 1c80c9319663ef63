use Rattle.std.proofs.Common.{sym, ◌∙◌}
use Rattle.route_feed.proofs.AnsweredChanges.{found_is_printable}
use Rattle.route_feed.proofs.answer.answer_get.Goals as goal

pub reply-requires-clause-body : goal.reply-requires-clause-body
reply-requires-clause-body g c = found_is_printable _ (c.in-Some.net, c.in-Some.hop, c.in-Some.pref) (sym c.get.ensures.found ∙ c.in-Some.is)
