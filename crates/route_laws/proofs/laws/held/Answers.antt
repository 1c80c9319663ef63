use Rattle.route_laws.proofs.Alterations.{members_after_add, members_after_del, match_after_add, match_after_del}
use Rattle.route_laws.proofs.laws.held.Goals as goal

pub returns : goal.returns
returns c = record { members_after_add = members_after_add; members_after_del = members_after_del; match_after_add = match_after_add; match_after_del = match_after_del }
