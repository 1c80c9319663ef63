use Rattle.route_installer.proofs.KeptTable.{installed_agrees, installed_at_all_times, installed_is_hitless, installed_turns_once, operations_reach, replies_are_fewest, syncs_are_least, syncs_stay}
use Rattle.route_installer.proofs.laws.installed.Goals as goal

pub returns : goal.returns
returns c = record {
  hops = installed_agrees;
  times = installed_at_all_times;
  turns = installed_turns_once;
  hitless = installed_is_hitless;
  reaches = operations_reach;
  fewest = replies_are_fewest;
  least = syncs_are_least;
  stays = syncs_stay;
}
