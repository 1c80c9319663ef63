-- The names that the walks cite.
pub use Rattle.std.proofs.Common.{◌≡◌, ℕ, ◌+◌, ◌-◌, ◌*◌, ◌<◌, ◌≤◌, ◌^◌, Bool, true, false, List, [], ◌∷◌, ◌++◌, length, refl, sym, ap, subst, ◌∙◌, lit<, arith}
pub use Rattle.std.proofs.raw_atomic.Walks.{proved, leaves}
pub use seplogic.Ra.Ura.{Ura}
pub use base.Fraction.{full_share}
pub use base.Logic.{SProp, ent, sep, ex, emp, id⊢, via}
pub use base.Fml.{Lft, Share, GName, Fml, ftrue, fat, flft, fres, fsep, fhide}
pub use mir.Syntax.{Fn, Body, w32, w64, ty_int, ty_ptr, named, a_type}
pub use mir.MapTy.{inst_fn}
pub use mir.Val.{Val, vint, vptr}
pub use contract.Monad.{fact}
pub use contract.Running.{tables}
pub use types.Logic.{Logic, sem}
pub use types.Kit.{Goal, Soaks, Step, step, Seq, Item, ‵, raw, ◌⊛◌, some, given, later, at_ret, Sq, ◌$◌, ◌∵◌, !, qed, by, done, move, keep, drop, use0, use1, use2, use3, split, split3, join, fsplit, fsplit3, fjoin, feq_i, feq_l, flt_i, flt_l, fpick, fpack, pick, learn, await, rewrite, regoal, suffices, frame, group}
pub use types.Run.{enter, of_opd, lit, bin, un, size_lit, addr, load, look, stop, fld, hop, no_more, and_then, first, blocks, exec, returns}
pub use types.Part.{whole, sub, look_in, agg}
pub use types.ByLocal.{alloc_all, pass_all, free_all, look_at, get, through, sets, sets_last, env}
pub use denote.Builtin.{u32, usize, RefOf, RefMutOf, SliceRefOf, SliceRefMutOf}
pub use denote.Exit.{yes, no}
pub use denote.RattleType.{RattleType, RowLaws, owns}
pub use denote.Memory.{mem, hidden_shr, cell_at, part_at}
pub use denote.Array.{Array}
pub use denote.Plain.{uint_vals, uint_Tells, uint_row_laws}
pub use denote.RawPtr.{Ptr, RawPtr, block_ptr, block_of, count_of, InBlock, ptr_row_laws}
pub use denote.Ref.{Bor, MutBor, ShrRef, MutRef, shr_vals, shr_Tells, mut_vals, mut_Tells}
pub use denote.Param.{param, layouts}
pub use denote.Param.Laws.{Laws, param_laws}
pub use denote.Signature.{plain}
pub use denote.Steps.{nothing, heard, looks, shuts, opens, closes}
pub use denote.Triple.Walked.{Stays, walk_of, says, stay_dropped, Goes-dropped, ends_at}
pub use Rattle.std_alloc.proofs.VecSteps.Shapes.{after}
pub use Rattle.core.proofs.mem.Facts.{says_two, says_three}
