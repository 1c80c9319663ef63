-- A `&` to a list lends the bound on its size and its items. Assumes `Logic`.
use mathlib.Core.Path.{◌≡◌, refl, sym, subst, ◌∙◌}
use mathlib.Core.Bool.{Bool, true, false, not}
use mathlib.Core.List.{List, [], ◌∷◌, ◌++◌}
use Prim.Native.Nat.{ℕ, zero, ◌-◌, ◌*◌, ◌≤◌, ◌^◌}
use native.Mathlib.Omega.{arith}
use native.Mathlib.Nat.{suc-ne-zero}
use lib.Dec.{T, eqb, eqb→eq}
use lib.ListN.{length}
use seplogic.Ra.Ura.{Ura}
use base.Fraction.{full_share}
use base.Logic.{ent, sep}
use base.Fml.{Lft, Fml, ftrue, fsep, flt, fbor, Incl-trans}
use mir.Syntax.{Ty, ty_array}
use mir.Raw.{raw as bare}
use types.Logic.{Logic, sem, lfts}
use types.Kit.{‵, raw, ◌$◌, !, qed, drop, fjoin, feq_i, updating, done}
use types.Kit.{now as at_once}
use contract.BorrowLft.{meet_⊑_left}
use denote.RattleType.{RattleType}
use denote.Steps.{nothing}
use denote.Memory.{lone}
use denote.Array.{Array}
use denote.Sharing.{said}
use denote.RawPtr.{Ptr, block_ptr, null_ptr, lies_at, room_for, in_block, ◌+ₚ◌}
use denote.Shares.{Shares, Shares-less, Shares-Array}
use denote.Param.Laws.{Laws}
use denote.Param.Shared.{copy_shared}
use denote.ArrayMemory.{Single}
use denote.Struct.Field.{RawPtr-field, u32-field}
use denote.Struct.Laws.{RawPtr-copy, u32-copy}
use denote.Struct.Lending.{lent_at, Lends, Lends-false, Lends-lies, Lends-said, Lends-first, Lends-both, of_Lends}
use Rattle.std.specs.Mem.{type_size}
use Rattle.std_alloc.specs.Vec.Ownership.{owns_if}
use Rattle.std_alloc.proofs.SharedLaws.{lent_shr_laws}
use Rattle.std_heap.specs.contracts.GlobalAllocator.TheImpl.{ghosts as heap}
use Rattle.std_heap.specs.contracts.Global as H-type
use Rattle.std_heap.proofs.Global.TheLaws as H-laws
use Rattle.short_vec.specs.contracts.short_vec.ShortVec as C
use Rattle.short_vec.proofs.short_vec.ShortVec.TheLaw.Statement.{statement}

empty : {X : Type 0} (xs : List X) → length xs ≡ 0 → xs ≡ []
empty [] e = refl
empty (x ∷ xs) e = absurd (suc-ne-zero (length xs) e)

module _ {M : Type 1} {𝓤 : Ura M} (𝓛 : Logic 𝓤) (R : RattleType) (L : Laws R) (t : Ty → Ptr → Fml) (l : Lft) (s : Shares 𝓛 R l) (n c : ℕ) (xs : List R.Denot) (long : n ≡ length xs) (fits : n ≤ c) where
  open 𝓛 use {H, A}

  abbrev After : Ptr → Fml
  After p = fsep (room_for (bare (ty_array (lone R.mir) (c - n))) (p +ₚ (n * type_size R))) (t (bare (ty_array (lone R.mir) c)) p)

  abbrev Held : Ptr → Bool → Fml
  Held p y = in_block p (owns_if (not y) (fsep (lies_at (Array R n) full_share p xs) (After p)))

  lends : (p : Ptr) (y : Bool) → (T y → c ≡ 0) → Lends 𝓛 (Held p y) (lent_at (Array R n) p xs) l
  lends null_ptr y z κ ts inc sp = Lends-false 𝓛 (lent_at (Array R n) null_ptr xs) l κ ts inc sp
  lends (block_ptr b o) false z κ ts inc sp =
      let p : Ptr = block_ptr b o in
      Lends-first 𝓛 (lies_at (Array R n) full_share p xs) (After p) (lent_at (Array R n) p xs) l (Lends-lies 𝓛 (Array R n) l p xs (Shares-Array 𝓛 R (subst Single (sym L.one) tt) n l s xs)) κ ts inc sp
  lends (block_ptr b o) true z κ ts inc sp =
      let none : c ≡ 0 = z tt in let n0 : n ≡ 0 = omega arith in
      subst (λ (ys : List R.Denot). ent 𝓤 (sep 𝓤 (A.bor κ ftrue) (lfts 𝓛 ts)) (H.⇛ (sep 𝓤 (sem 𝓛 (lent_at (Array R n) (block_ptr b o) ys κ)) (lfts 𝓛 ts)))) (sym (empty xs (sym long ∙ n0)))
      (qed 𝓛 (‵ (fbor κ ftrue) ∷ raw (lfts 𝓛 ts) ∷ []) {P = H.⇛ (sep 𝓤 (sem 𝓛 (lent_at (Array R n) (block_ptr b o) [] κ)) (lfts 𝓛 ts))} (
      updating ! $ drop ! $ nothing ! $ feq_i ! ℕ zero n (sym n0) $ fjoin ! $ nothing ! $ fjoin ! $ at_once ! $ done !))

pub shares : (R : RattleType) (L : Laws R) → statement R L
shares R L = of_Lends (C.struct R) (C.the_codes R.Denot R.coded H-type.the_row.coded) (C.the_heap R) (C.the_lent R) (λ d p. lent_shr_laws R L.shr_laws d.ptr d.len d.cap d.items)
    (copy_shared RawPtr-field RawPtr-copy, (copy_shared u32-field u32-copy, (copy_shared u32-field u32-copy, (H-laws.the_field_shared, tt))))
    (λ M 𝓤 𝓛 d p.
    let l = (C.the_row R).lives in
    let small = flt (d.cap * type_size R) (2 ^ 63) in
    Lends-both 𝓛 small _ (said small) (lent_at (Array R d.len) d.ptr d.items) l (Lends-said 𝓛 small tt l)
    (lends 𝓛 R L (heap.dealloc_token d.alloc) l (Shares-less 𝓛 R R.lives l (Incl-trans (meet_⊑_left (R.lives ++ []) _) (meet_⊑_left R.lives [])) (L.shares 𝓛)) d.len d.cap d.items d.ok.0 d.ok.1 d.ptr (eqb d.cap 0) (eqb→eq d.cap 0)))
