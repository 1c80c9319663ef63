-- What the walks of this crate cite.
pub use Rattle.std.proofs.Common.{◌≡◌, ℕ, List, [], ◌∷◌, ◌++◌, refl, sym, ap, ◌∙◌, Option, Some, None}
pub use Rattle.std.proofs.raw_atomic.Walks.{proved}
pub use base.Fraction.{full_share}
pub use base.Logic.{id⊢}
pub use base.Fml.{ftrue, flft}
pub use mir.Val.{Val}
pub use contract.Monad.{fact}
pub use contract.Running.{tables}
pub use types.Kit.{‵, raw, ◌⊛◌, prop, some, later, at_ret, ◌$◌, ◌∵◌, !, qed, done, move, keep, drop, use1, use2, split, join, fsplit, fjoin, feq_l, pick, await, rewrite, suffices, group}
pub use types.Run.{enter, of_opd, lit, stop, fld, no_more, and_then, blocks, first, exec, returns, well_typed}
pub use types.ByLocal.{alloc_all, pass_all, free_all, look_at, get, get_in, sets, lands_as, lands_last, env}
pub use types.Part.{whole, sub, agg}
pub use denote.Exit.{yes}
pub use denote.Laws.{Is, shows}
pub use denote.RawPtr.{Ptr, null_ptr, ptr_val, RawPtr, rawptr_Makes, rawptr_Lawful}
pub use denote.Signature.{plain}
pub use denote.Steps.{nothing, owned, peeks, facts, heard, only}
pub use denote.Struct.Owning.{to}
pub use denote.Triple.Call.{calls_at, calls_at_last}
pub use denote.Triple.Clauses.{lasts}
pub use denote.Triple.Entry.{on_entry}
pub use denote.Triple.Spec.{triple_of}
pub use denote.Triple.Walked.{Stays, walk_of, says, stay_dropped, Goes-dropped, ends_at}
pub use denote.Triple.Table.{framed}
pub use types.Tokens.{lft_new}
