-- `as_slice` lends the items that a `&` to the list shows. Assumes `Logic`.
use Rattle.short_vec.proofs.Steps.{ℕ, ◌+◌, ◌*◌, ◌<◌, ◌^◌, List, [], ◌∷◌, length, refl, sym, ap, arith, proved, ftrue, flft, named, a_type, inst_fn, Val, tables, ‵, raw, ◌⊛◌, at_ret, ◌$◌, ◌∵◌, !, qed, done, move, keep, split, split3, fsplit, fjoin, feq_i, flt_i, suffices, enter, of_opd, un, load, look, stop, fld, no_more, and_then, first, blocks, exec, returns, agg, alloc_all, pass_all, free_all, look_at, get, through, sets, sets_last, env, RefOf, yes, mem, block_of, count_of, shr_vals, shr_Tells, ShrRef, layouts, plain, says_two, Stays, walk_of, stay_dropped, Goes-dropped, ends_at, after}
use denote.Slice.{slice_val}
use Rattle.core.proofs.ptr.Rows.{times_below}
use Rattle.std_alloc.proofs.Words.{pointer_in, pointer_out}
use Rattle.short_vec.proofs.Seen.{R, V, seen_in, number_in, number_out, shows_ptr, shows_len, leaves_one}
use Rattle.short_vec.specs.contracts.short_vec.ShortVec.as_slice as f
use Rattle.short_vec.proofs.short_vec.ShortVec.as_slice.Statement.{statement}
use Rattle.short_vec.proofs.short_vec.ShortVec.as_slice.Code as code

pub as_slice_spec : {M : Type 1} → statement M
as_slice_spec 𝓤 𝓛 𝓜 𝓡 wired T L =
    let En = f.ended T in let c = f.clauses T 𝓛 𝓜.mem 𝓡.returns in let inst = layouts (a_type ∷ []) (T, tt) in let fn = inst_fn inst code.function in
    let Ref = RefOf (0 ∷ []) tt (plain (λ _. V T)) (λ _. tt) in let hs : Stays En.signature.params En.kept = (stay_dropped Ref yes, tt) in let W = walk_of 𝓛 En hs c in let 𝓣 = tables 𝓤 𝓛.H 𝓜 𝓡 𝓡.env in
    proved 𝓛 En hs c 𝓜 𝓡 (Goes-dropped 𝓛 2 Ref yes (λ κs x w. refl), tt) (f.Key.name inst) fn (code.unfolded 𝓤 𝓛.H 𝓜 𝓡 wired (T, tt))
    (λ κs. (shr_vals, tt)) (λ κs. (shr_Tells (named 0) κs.0 (V T), tt)) (λ κs qs bounds a _ are.
    let d = a.0.now in let b = a.0.ref_ptr.0 in let o = a.0.ref_ptr.1 in let vs = shr_vals a.0 in let y : W.Ghost = ((κs, qs, bounds, a, (vs, tt)), tt) in
    let at : ℕ × ℕ = (block_of d.ptr, count_of d.ptr) in let n = length d.items in
    qed 𝓛 (((‵ (flft κs.0 qs.0) ⊛ ‵ (flft κs.1.0 qs.1.0) ⊛ ‵ ftrue) ⊛ ‵ ((ShrRef (named 0) κs.0 (V T)).own_val a.0 vs) ⊛ ‵ ftrue) ∷ raw ((c κs a).requires tt) ∷ []) ∵
    split ! $ split3 ! $ move ! (3 ∷ []) $ split ! $ fsplit ! $ keep ! (1 ∷ 3 ∷ 4 ∷ []) $
    enter ! _ _ _ _ _ $ alloc_all ! (λ l. pass_all ! refl ((tt, tt), tt) $
    seen_in T L ! d b o (λ inside fit. move ! (0 ∷ 2 ∷ []) $
    first ! $ blocks ! $
    pointer_in ! tt d.ptr inside b (o + 0) (shows_ptr T L 𝓛 κs.0 d b o) (λ q₁.
    sets ! (of_opd ! (load ! (through ! refl (fld ! refl (stop !))) (look ! 1 refl))) refl (tt, tt) $
    pointer_out ! tt d.ptr inside b (o + 0) $ move ! (1 ∷ 0 ∷ []) $
    number_in ! tt d.len b (o + 8) (shows_len T L 𝓛 κs.0 d b o) (λ q₂ low.
    let wide : d.len < 2 ^ 64 = omega (arith, low) in let long : n < 2 ^ 64 = omega (arith, low, d.ok.0) in
    let room : n * (mem (R T)).size < 2 ^ 63 = times_below n d.cap (mem (R T)).size (2 ^ 63) (omega (arith, d.ok.0, d.ok.1)) fit in
    sets ! (of_opd ! (load ! (through ! refl (fld ! refl (stop !))) (look ! 0 refl))) refl (tt, record { fits = low }) $
    sets ! (un ! (get ! refl) (record { fits = wide })) refl (tt, record { fits = wide }) $
    number_out ! tt d.len b (o + 8) low $
    sets_last ! (agg ! (and_then ! (get ! refl) (and_then ! (get ! refl) (no_more !)))) refl (tt, (tt, (record { fits = wide }, tt))) $
    exec ! 𝓣.C 𝓣.Λ (env fn.locals l) (after 1 fn.body) (at_ret _ (W.post y)) $
    sets ! (of_opd ! (get ! refl)) refl (tt, (tt, (record { fits = wide }, tt))) $
    returns ! (look_at ! 0 refl) $ free_all ! refl $ keep ! (2 ∷ 0 ∷ 3 ∷ []) $
    suffices ! _ (ends_at 𝓛 En hs c y (slice_val at d.len) (record { ref_ptr = at; now = d.items }) (tt, tt) (tt, tt)) $ says_two ! (refl, sym d.ok.0) $
    flt_i ! (n * (mem (R T)).size) (2 ^ 63) room $ flt_i ! n (2 ^ 64) long $ fjoin ! $ feq_i ! (List Val) (slice_val at d.len ∷ []) (slice_val at n ∷ []) (ap (λ k. slice_val at k ∷ []) d.ok.0) $ fjoin ! $ fjoin ! $ leaves_one ! $ done !)))))
