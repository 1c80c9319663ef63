-- `index_mut` lends one item, and the list follows it. Assumes `Logic`.
use Rattle.short_vec.proofs.Steps.{◌≡◌, ◌+◌, ◌-◌, ◌*◌, ◌<◌, ◌^◌, [], ◌∷◌, length, refl, sym, arith, proved, ent, sep, full_share, GName, ftrue, flft, fsep, Fml, w64, named, a_type, inst_fn, vptr, fact, tables, sem, ‵, raw, ◌⊛◌, some, given, later, at_ret, ◌$◌, ◌∵◌, !, qed, by, done, move, keep, drop, use1, use2, split, split3, await, pick, learn, fsplit, fsplit3, fjoin, group, frame, suffices, enter, of_opd, bin, size_lit, addr, load, stop, fld, first, blocks, exec, returns, whole, sub, look_in, alloc_all, pass_all, free_all, look_at, get, through, sets, sets_last, env, mem, part_at, Array, usize, yes, no, uint_vals, uint_Tells, mut_vals, mut_Tells, MutRef, block_ptr, layouts, plain, heard, says, Stays, walk_of, stay_dropped, Goes-dropped, ends_at, after}
use lib.ListN.{get_or, set}
use base.Fml.{froom}
use mir.Syntax.{ty_array}
use mir.Raw.{raw as bare}
use denote.Index.{others}
use denote.Memory.{shares}
use denote.Param.{layout}
use denote.Signature.{mut_ref_to}
use denote.Follow.{follows, lends_Part}
use denote.Triple.Walked.{Goes-spent_ref}
use Rattle.core.proofs.ptr.Rows.{hd, one_below, times_below}
use Rattle.core.proofs.slice.Lists.{any-default}
use Rattle.std_alloc.proofs.VecSteps.El.{wider, sz}
use Rattle.std_alloc.proofs.VecSteps.Opens.{blk_out, blk_in}
use Rattle.std_alloc.proofs.VecSteps.Rows.{take_out, put_in}
use Rattle.std_heap.specs.contracts.GlobalAllocator.TheImpl.{ghosts as tokens}
use Rattle.short_vec.specs.Lends.{short_with_item}
use Rattle.short_vec.proofs.Seen.{R, V, leaves_two}
use Rattle.short_vec.proofs.Lent.{E, Own, Cell, short_opens, short_made}
use Rattle.short_vec.specs.contracts.lends.ShortVecIndexMutUsize.index_mut as f
use Rattle.short_vec.proofs.lends.ShortVecIndexMutUsize.index_mut.Statement.{statement}
use Rattle.short_vec.proofs.lends.ShortVecIndexMutUsize.index_mut.Code as code

pub index_mut_spec : {M : Type 1} → statement M
index_mut_spec 𝓤 𝓛 𝓜 𝓡 wired T L =
    let En = f.ended T in let c = f.clauses T 𝓛 𝓜.mem 𝓡.returns in let inst = layouts (a_type ∷ []) (T, tt) in let fn = inst_fn inst code.function in
    let hs : Stays En.signature.params En.kept = (stay_dropped (mut_ref_to (0 ∷ []) tt (plain (λ _. V T))) no, (stay_dropped (plain (λ _. usize)) yes, tt)) in let W = walk_of 𝓛 En hs c in let 𝓣 = tables 𝓤 𝓛.H 𝓜 𝓡 𝓡.env in
    proved 𝓛 En hs c 𝓜 𝓡 (Goes-spent_ref 𝓛 2 (0 ∷ []) tt (plain (λ _. V T)), (Goes-dropped 𝓛 2 (plain (λ _. usize)) yes (λ κs x w. refl), tt)) (f.Key.name inst) fn (code.unfolded 𝓤 𝓛.H 𝓜 𝓡 wired (T, tt))
    (λ κs. (mut_vals, (uint_vals w64, tt))) (λ κs. (mut_Tells (named 0) κs.0 (V T), (uint_Tells w64, tt))) (λ κs qs bounds a _ are.
    let κ = κs.0 in let q = qs.0 in let d = a.0.now in let rb = a.0.ref_ptr.0 in let ro = a.0.ref_ptr.1 in let γ = a.0.ghost_name in let xs = d.items in let i = a.1.0 in let fi = are.1.0.1 in let s = sz (E T L) in
    let vs = mut_vals a.0 in let y : W.Ghost = ((κs, qs, bounds, a, (vs, (uint_vals w64 i, tt))), tt) in
    qed 𝓛 (((‵ (flft κ q) ⊛ ‵ (flft κs.1.0 qs.1.0) ⊛ ‵ ftrue) ⊛ ‵ ((MutRef (named 0) κ (V T)).own_val a.0 vs) ⊛ ‵ (usize.own_val i (uint_vals w64 i)) ⊛ ‵ ftrue) ∷ (raw (fact 𝓤 _) ⊛ raw (fact 𝓤 (i < d.len))) ∷ []) ∵
    move ! (1 ∷ []) $ split ! $ drop ! $ heard ! _ (λ li.
    split ! $ split3 ! $ move ! (3 ∷ []) $ split ! $ fsplit3 ! $ keep ! (1 ∷ 2 ∷ 4 ∷ 5 ∷ []) $
    enter ! _ _ _ _ _ $ alloc_all ! (λ l. pass_all ! refl ((tt, tt), ((tt, record { fits = fi }), tt)) $
    short_opens T L ! tt d rb ro (λ b o e low fit.
    let pos : 0 < d.cap = omega (arith, li, d.ok.1) in let x = get_or xs i (hd xs (omega (arith, li, d.ok.0))) in let is : x ≡ get_or xs i x = any-default xs i (hd xs (omega (arith, li, d.ok.0))) x (omega (arith, li, d.ok.0)) in
    let tiny : s < 2 ^ 64 = wider s (one_below d.cap s (2 ^ 63) pos fit) in let far : i * s < 2 ^ 64 = wider (i * s) (times_below i d.cap s (2 ^ 63) (omega (arith, li, d.ok.1)) fit) in
    let Room : Fml = froom (ty_array (layout T) (d.cap - d.len)) b (o + d.len * s) in let Token : Fml = tokens.dealloc_token d.alloc (bare (ty_array (layout T) d.cap)) (block_ptr b o) in
    let Rest : Fml = fsep (others (shares (R T)) full_share xs i b o) (fsep Room (fsep Token (fsep (Own T L d b o) (Cell T L d b o rb ro)))) in
    let back : (w : T.Denot) → ent 𝓤 (sep 𝓤 (sem 𝓛 ((mem (R T)).own_at w b (i * s + o))) (sem 𝓛 Rest)) (sem 𝓛 ((mem (V T)).own_at (short_with_item d i w) rb ro)) = λ w.
    qed 𝓛 (‵ (part_at (R T) full_share w b (i * s + o)) ∷ ‵ Rest ∷ []) ∵ move ! (1 ∷ []) $ fsplit ! $ move ! (2 ∷ 0 ∷ []) $
    use2 𝓛 (‵ (part_at (Array (R T) d.len) full_share (set xs i w) b o)) (put_in (E T L) 𝓛 d.len xs i w b o li (sym d.ok.0)) $ move ! (1 ∷ []) $ fsplit3 ! $ move ! (3 ∷ 0 ∷ 1 ∷ []) $
    blk_in (E T L) ! d.alloc b o d.len d.cap (set xs i w) pos $ by ! (short_made T L 𝓛 d (set xs i w) (short_with_item d i w).ok b o rb ro e fit) in
    blk_out (E T L) ! d.alloc b o d.len d.cap xs pos $
    first ! $ blocks ! $
    sets ! (of_opd ! (load ! (through ! refl (fld ! refl (stop !))) (look_in ! 3 (sub ! 0 refl (whole !))))) refl (tt, tt) $
    sets ! (of_opd ! (get ! refl)) refl (tt, tt) $
    sets ! (bin ! (get ! refl) (size_lit ! (record { fits = tiny })) (record { fits = far })) refl (tt, record { fits = far }) $
    sets ! (bin ! (get ! refl) (get ! refl) tt) refl (tt, tt) $
    sets_last ! (addr ! (through ! refl (stop !))) refl (tt, tt) $
    exec ! 𝓣.C 𝓣.Λ (env fn.locals l) (after 1 fn.body) (at_ret _ (W.post y)) $
    sets ! (of_opd ! (get ! refl)) refl (tt, tt) $
    use1 𝓛 (given (length xs ≡ d.len) (‵ (part_at (R T) full_share x b (i * s + o)) ⊛ ‵ (others (shares (R T)) full_share xs i b o))) (take_out (E T L) 𝓛 d.len xs i (hd xs (omega (arith, li, d.ok.0))) b o li) $ learn ! (λ _. split ! $
    -- [the item; the others; the room; the token; the words; what they own; the open borrow; obs; auth]
    move ! (5 ∷ 4 ∷ []) $ fjoin ! $ move ! (4 ∷ 0 ∷ []) $ fjoin ! $ move ! (3 ∷ 0 ∷ []) $ fjoin ! $ move ! (2 ∷ 0 ∷ []) $ fjoin ! $ move ! (2 ∷ 3 ∷ 4 ∷ 1 ∷ 0 ∷ []) $ group ! 5 $
    use1 𝓛 (later (some (λ (γ' : GName). ‵ ((MutRef (named 0) κ (R T)).own_val (record { ref_ptr = (b, i * s + o); ghost_name = γ'; now = x }) (vptr b (i * s + o) ∷ [])) ⊛ ‵ (flft κ q) ⊛ ‵ (follows (V T) (R T) γ γ' (short_with_item d i)))))
    (lends_Part 𝓛 (V T) (R T) (short_with_item d i) (named 0) κ q rb ro b (i * s + o) γ (sem 𝓛 Rest) back ((V T).coded.code d) ((V T).coded.code d) x) $ await ! tt $ pick ! (λ γ'. split3 ! $
    returns ! (look_at ! 0 refl) $ free_all ! refl $ keep ! (0 ∷ 1 ∷ 3 ∷ 2 ∷ []) $
    suffices ! _ (ends_at 𝓛 En hs c y (vptr b (i * s + o)) (record { ref_ptr = (b, i * s + o); ghost_name = γ'; now = x }) (tt, (tt, tt)) (tt, (tt, tt))) $ leaves_two ! $ frame ! $ says ! is $ done !))))))
