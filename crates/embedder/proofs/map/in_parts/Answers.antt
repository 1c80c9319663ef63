use Rattle.std.proofs.Common.{rules, ◌<◌}
use Rattle.std.proofs.lemmas.Fn.{filter_same}
use Rattle.embedder.proofs.Stored.{callable_at}
use Rattle.embedder.proofs.map.in_parts.Goals as goal

pub retain-requires : goal.retain-requires
retain-requires c = callable_at _ _ (λ e. 0 < e.1) (λ f e p key value b k t v. search rules) _ _ c.requires

pub returns : goal.returns
returns c = filter_same _ _ _ (λ e b f' k. let value = k.shows.3 in search rules) _ _ c.retain.ensures.kept
