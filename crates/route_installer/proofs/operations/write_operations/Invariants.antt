use Rattle.std.proofs.Common.{length}
use Rattle.route_installer.specs.InnerInstalling.{operation_bytes}
use Rattle.route_program.proofs.WriteLines.{Told}
use Rattle.route_installer.proofs.operations.write_operations.Given as goal

abbrev pub invariant-loop-operation : goal.invariant-loop-operation
invariant-loop-operation g l = record {
  can : g.O.Operations.can_give l.operations;
  told : Told g.W.Write.contents operation_bytes l.fn.writer l.writer (g.O.Operations.left l.fn.operations) (g.O.Operations.left l.operations);
}

abbrev pub decreases-loop-operation : goal.decreases-loop-operation
decreases-loop-operation g l = length (g.O.Operations.left l.operations)
