-- The operations of edits of both families, and the table of changes, computed.
use Rattle.std.proofs.Common.{◌≡◌, true, false, [], ◌∷◌, Some, None, refl}
use Rattle.ipnet_addr.specs.Addresses.{Ipv4, Ipv6}
use Rattle.route_choices.specs.declared.hop.Hop.TheVariants.{Number, Drop}
use Rattle.route_laws.specs.Operations.{Install, Remove}
use Rattle.route_table.specs.InnerUpdates.{operations_of, overwritten_all}

-- 0.0.0.0/1 is removed, and 128.0.0.0/2 and ::/1 get new routes, as 8000::/1 loses its own
operations : operations_of (((false ∷ []), None) ∷ ((true ∷ false ∷ []), Some (Some 7)) ∷ []) (((false ∷ []), Some None) ∷ ((true ∷ []), None) ∷ [])
    ≡ Install (record { block = record { family = Ipv6; len = 1; quotient = 0 }; hop = Drop; pref = 100 })
    ∷ Install (record { block = record { family = Ipv4; len = 2; quotient = 2 }; hop = Number 7; pref = 100 })
    ∷ Remove (record { family = Ipv4; len = 1; quotient = 0 })
    ∷ Remove (record { family = Ipv6; len = 1; quotient = 1 })
    ∷ []
operations = refl

-- a change takes out the older ones inside it, and stands inside the older ones around it
changes : overwritten_all []
    (record { block = record { family = Ipv4; len = 2; quotient = 1 }; hop = Number 1; pref = 100 }
    ∷ record { block = record { family = Ipv4; len = 1; quotient = 0 }; hop = Number 2; pref = 100 }
    ∷ record { block = record { family = Ipv4; len = 3; quotient = 1 }; hop = Drop; pref = 100 } ∷ [])
    ≡ record { block = record { family = Ipv4; len = 1; quotient = 0 }; hop = Number 2; pref = 100 }
    ∷ record { block = record { family = Ipv4; len = 3; quotient = 1 }; hop = Drop; pref = 100 } ∷ []
changes = refl
