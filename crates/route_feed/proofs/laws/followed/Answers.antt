use Rattle.route_feed.proofs.Beginnings.{all_answered, output_followed, beginnings_agree, flat_lists_agree}
use Rattle.route_feed.proofs.Grammar.{beginnings_are_replies}
use Rattle.route_feed.proofs.Rebuilt.{restarted_agree, told_is_table}
use Rattle.route_feed.proofs.laws.followed.Goals as goal

pub returns : goal.returns
returns c = record {
  hops = beginnings_agree;
  flat = flat_lists_agree;
  replies = beginnings_are_replies;
  answered = all_answered;
  whole = output_followed;
  restarted = restarted_agree;
  table = told_is_table;
}
