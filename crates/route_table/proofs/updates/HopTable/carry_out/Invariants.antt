use Rattle.std.proofs.Common.{◌≡◌, map, take}
use Rattle.route_laws.specs.Networks.{IsStoredTable, routes_of}
use Rattle.route_laws.specs.Operations.{after_all}
use Rattle.route_table.specs.Operations.{operation_of}
use Rattle.route_table.proofs.updates.HopTable.carry_out.Given as goal

-- the operations before this one were carried out
abbrev pub invariant-loop-operation : goal.invariant-loop-operation
invariant-loop-operation l = IsStoredTable l.self × (routes_of l.self ≡ after_all (routes_of l.initial.self) (map operation_of (take l.operation-index l.operations)))
