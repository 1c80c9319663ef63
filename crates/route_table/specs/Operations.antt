-- The operations between two tables, as calls return them.
use Rattle.std.specs.Prelude.{◌≡◌, List, [], ◌∷◌, ◌++◌, Option, MatchOption, map}
use Rattle.ipnet.specs.IpNets.{block, network_at}
use Rattle.ipnet.specs.declared.ip_net.IpNet.{IpNet}
use Rattle.route_choices.specs.Choices.{default_preference}
use Rattle.route_laws.specs.Networks.{Stored, choices_at, routes_of}
use Rattle.route_laws.specs.Operations.{Operation, Install, Remove, after_all}
use Rattle.route_laws.specs.Tables.{route_of}
use Rattle.route_table.specs.declared.between.Operation as Given
use Rattle.route_table.specs.declared.between.Operation.TheVariants as One

-- an operation, where an installed route has the default preference
abbrev pub operation_of : Given.Operation → Operation
operation_of (One.Install net hop) = Install (route_of net hop default_preference)
operation_of (One.Remove net) = Remove (block net)

-- the network of an operation
abbrev pub network_of : Given.Operation → IpNet
network_of (One.Install net hop) = net
network_of (One.Remove net) = net

-- the first operation was returned, its network without host bits, or none was left
abbrev pub GivesOperation : List Operation → Option Given.Operation → List Operation → Type 0
GivesOperation os item left = MatchOption item ((os ≡ []) × (left ≡ [])) (λ o. (os ≡ operation_of o ∷ left) × (network_of o ≡ network_at (block (network_of o))))

-- an install of a network that isn't stored
abbrev pub IsNewInstall : List Stored → Given.Operation → Type 0
IsNewInstall T (One.Install net hop) = choices_at T (block net) ≡ []
IsNewInstall T (One.Remove net) = ⊥

-- the table has the operations before an install of a network that isn't stored, and none from it on
pub record EndsAtInstall (T : List Stored) (os : List Given.Operation) (U : List Stored) : Type 0 where
  pub done : List Given.Operation
  pub refused : Given.Operation
  pub later : List Given.Operation
  pub all : os ≡ done ++ refused ∷ later
  pub routes : routes_of U ≡ after_all (routes_of T) (map operation_of done)
  pub new : IsNewInstall U refused
