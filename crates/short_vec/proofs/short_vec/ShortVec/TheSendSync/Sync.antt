-- A `&` to a list crosses threads as one to the `Vec` of the same words does.
use denote.RattleType.{RattleType}
use denote.Param.Send.{IsSync, struct_sync, sendable}
use denote.Struct.Owning.{shape, to}
use Rattle.std.proofs.Crossing.{Vec-sync}
use Rattle.std.proofs.alloc.Global.TheSendSync.{the_field_sync}
use Rattle.short_vec.specs.formers.short_vec.ShortVec.{as_vec}
use Rattle.short_vec.specs.contracts.short_vec.ShortVec.{the_row, the_type}

pub sync : (T : RattleType) → IsSync T → IsSync (the_row T)
sync T y =
    let O = the_type T in
    record { shared = λ d b o κ. ((struct_sync (shape O) (search sendable, (search sendable, (search sendable, (the_field_sync, tt))))).shared (to O d) b o κ, ((Vec-sync T y).shared (as_vec d) b o κ).1) }
