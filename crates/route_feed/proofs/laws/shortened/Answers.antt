use Rattle.route_feed.proofs.Rebuilt.{lines_keep_hops, lines_rebuild, lines_stay_least, no_hops_no_lines, shortened_agree}
use Rattle.route_feed.proofs.laws.shortened.Goals as goal

pub returns : goal.returns
returns c = record {
  rebuild = lines_rebuild;
  hops = shortened_agree;
  nothing = no_hops_no_lines;
  kept = lines_keep_hops;
  least = lines_stay_least;
}
