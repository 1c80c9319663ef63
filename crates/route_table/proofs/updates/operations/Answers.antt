use Rattle.std.proofs.lemmas.List.Elements.{All-nil}
use Rattle.route_table.proofs.updates.operations.Goals as goal

pub returns-clause-truncated : goal.returns-clause-truncated
returns-clause-truncated c = c.in_ok-push_removes-2.ensures.truncated (c.in_ok-push_removes.ensures.truncated (c.in_ok-push_installs-2.ensures.truncated (c.in_ok-push_installs.ensures.truncated (rw c.new-operations.ensures.items (All-nil _)))))
