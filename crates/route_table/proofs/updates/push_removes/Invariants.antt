use Rattle.std.proofs.Common.{take}
use Rattle.route_table.specs.InnerUpdates.{AddsRemoves}
use Rattle.route_table.proofs.updates.push_removes.Given as goal

-- the removes of the edits before this one were added
abbrev pub invariant-loop-path : goal.invariant-loop-path
invariant-loop-path g l = AddsRemoves g.P.FamilyNet.family (take l.path-index l.edits) l.initial.operations.items l.operations.items
