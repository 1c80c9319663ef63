use Rattle.std.proofs.lemmas.List.Elements.{All-rest}
use Rattle.ipnet.specs.IpNets.{family, parts}
use Rattle.ipnet_blocks.specs.Networks.{IsTruncated}
use Rattle.route_table.specs.Operations.{network_of}
use Rattle.route_installer.proofs.operations.RefSliceOperationOperations.next_operation.Goals as goal

pub returns-clause-others : goal.returns-clause-others
returns-clause-others c =
    All-rest (λ o. IsTruncated (family (network_of o)) (parts (network_of o))) _ _ _ c.in_ok-operation.ensures.cases.0 c.requires
