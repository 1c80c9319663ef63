-- A list crosses threads as the `Vec` of the same words does.
use mathlib.Core.List.{[]}
use denote.RattleType.{RattleType}
use denote.Param.Send.{IsSend, AllSend, owning_send, struct_send, sendable}
use denote.Struct.Struct.{exits_of}
use denote.Struct.Owning.{shape, fields, to}
use Rattle.std_alloc.proofs.SendSync.{quiet}
use Rattle.std.proofs.Crossing.{Vec-send}
use Rattle.std.proofs.alloc.Global.TheSendSync.{the_field_send}
use Rattle.short_vec.specs.formers.short_vec.ShortVec.{as_vec}
use Rattle.short_vec.specs.contracts.short_vec.ShortVec.{the_row, the_type}

pub send : (T : RattleType) → IsSend T → IsSend (the_row T)
send T s =
    let O = the_type T in let all : AllSend (fields O) = (search sendable, (search sendable, (search sendable, (the_field_send, tt)))) in
    owning_send O all (λ d. ((Vec-send T s).owned (as_vec d) []).1) (λ k. quiet (to O) (exits_of k (fields O)) ((struct_send (shape O) all).leaving k))
