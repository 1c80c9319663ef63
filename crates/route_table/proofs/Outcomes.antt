-- What holds of an answer holds of it in other words.
use Rattle.std.proofs.Common.{◌≡◌, Bool, true, false, is_some, Option, Result, Ok, Err, sym, ap, subst, IfSome, OnErr}
use Rattle.std.specs.Bool.{then_some}

pub when_err : {T E P : Type 0} (r : Result T E) → P → OnErr r P
when_err (Ok v) p = tt
when_err (Err e) p = p

-- an answer that is there if a test passed
pub some_if : {T : Type 0} (b : Bool) (v : T) (o : Option T) → o ≡ then_some b v → is_some o ≡ b
some_if true v o e = ap is_some e
some_if false v o e = ap is_some e

pub if_then_some : {T : Type 0} (P : T → Type 0) (b : Bool) (v : T) (o : Option T) → o ≡ then_some b v → P v → IfSome o P
if_then_some P true v o e p = subst (λ z. IfSome z P) (sym e) p
if_then_some P false v o e p = subst (λ z. IfSome z P) (sym e) tt
