use Rattle.route_laws.proofs.Runs.{given_reaches, gives_hitless, keeps_hops, made_last, sync_is_least, sync_is_unseen, sync_stays, told_is_fewest}
use Rattle.route_laws.proofs.operations.runs.Goals as goal

pub returns : goal.returns
returns c = record { operations = λ es e m. (made_last es e m).0; reaches = given_reaches; hitless = gives_hitless; hops = keeps_hops; fewest = told_is_fewest; least = sync_is_least; stays = sync_stays; unseen = sync_is_unseen }
