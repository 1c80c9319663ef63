use Rattle.std.proofs.Common.{rules, ap}
use Rattle.std.proofs.lemmas.Fn.{filter_same}
use Rattle.embedder.proofs.map.roomy.Goals as goal

pub returns : goal.returns
returns c = filter_same _ _ _ (λ e b f' k. let len = ap (λ r. r.len) k.shows.1 in search rules) _ _ c.retain.ensures.kept
