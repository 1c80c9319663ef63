-- `capacity` reads the capacity through the `&`. Assumes `Logic`.
use Rattle.short_vec.proofs.Steps.{◌+◌, ◌<◌, ◌^◌, List, [], ◌∷◌, refl, arith, proved, ftrue, flft, w64, named, a_type, inst_fn, Val, vint, ‵, raw, ◌⊛◌, ◌$◌, ◌∵◌, !, qed, done, move, keep, split, split3, fsplit, fjoin, feq_i, flt_i, suffices, enter, of_opd, un, load, look, stop, fld, returns, alloc_all, pass_all, free_all, look_at, get, through, sets, RefOf, yes, shr_vals, shr_Tells, ShrRef, layouts, plain, says, Stays, walk_of, stay_dropped, Goes-dropped, ends_at}
use Rattle.short_vec.proofs.Seen.{V, seen_in, number_in, number_out, shows_cap, leaves_one}
use Rattle.short_vec.specs.contracts.short_vec.ShortVec.capacity as f
use Rattle.short_vec.proofs.short_vec.ShortVec.capacity.Statement.{statement}
use Rattle.short_vec.proofs.short_vec.ShortVec.capacity.Code as code

pub capacity_spec : {M : Type 1} → statement M
capacity_spec 𝓤 𝓛 𝓜 𝓡 wired T L =
    let En = f.ended T in let c = f.clauses T 𝓛 𝓜.mem 𝓡.returns in let inst = layouts (a_type ∷ []) (T, tt) in let fn = inst_fn inst code.function in
    let Ref = RefOf (0 ∷ []) tt (plain (λ _. V T)) (λ _. tt) in let hs : Stays En.signature.params En.kept = (stay_dropped Ref yes, tt) in let W = walk_of 𝓛 En hs c in
    proved 𝓛 En hs c 𝓜 𝓡 (Goes-dropped 𝓛 2 Ref yes (λ κs x w. refl), tt) (f.Key.name inst) fn (code.unfolded 𝓤 𝓛.H 𝓜 𝓡 wired (T, tt))
    (λ κs. (shr_vals, tt)) (λ κs. (shr_Tells (named 0) κs.0 (V T), tt)) (λ κs qs bounds a _ are.
    let d = a.0.now in let b = a.0.ref_ptr.0 in let o = a.0.ref_ptr.1 in let vs = shr_vals a.0 in let y : W.Ghost = ((κs, qs, bounds, a, (vs, tt)), tt) in
    qed 𝓛 (((‵ (flft κs.0 qs.0) ⊛ ‵ (flft κs.1.0 qs.1.0) ⊛ ‵ ftrue) ⊛ ‵ ((ShrRef (named 0) κs.0 (V T)).own_val a.0 vs) ⊛ ‵ ftrue) ∷ raw ((c κs a).requires tt) ∷ []) ∵
    split ! $ split3 ! $ move ! (3 ∷ []) $ split ! $ fsplit ! $ keep ! (1 ∷ 3 ∷ 4 ∷ []) $
    enter ! _ _ _ _ _ $ alloc_all ! (λ l. pass_all ! refl ((tt, tt), tt) $
    seen_in T L ! d b o (λ _ _. move ! (0 ∷ 2 ∷ []) $
    number_in ! tt d.cap b (o + 12) (shows_cap T L 𝓛 κs.0 d b o) (λ q' low.
    let wide : d.cap < 2 ^ 64 = omega (arith, low) in
    sets ! (of_opd ! (load ! (through ! refl (fld ! refl (stop !))) (look ! 0 refl))) refl (tt, record { fits = low }) $
    sets ! (un ! (get ! refl) (record { fits = wide })) refl (tt, record { fits = wide }) $
    number_out ! tt d.cap b (o + 12) low $
    returns ! (look_at ! 0 refl) $ free_all ! refl $ keep ! (0 ∷ 3 ∷ []) $
    suffices ! _ (ends_at 𝓛 En hs c y (vint w64 d.cap) d.cap (tt, tt) (tt, tt)) $ says ! refl $
    flt_i ! d.cap (2 ^ 64) wide $ feq_i ! (List Val) (vint w64 d.cap ∷ []) (vint w64 d.cap ∷ []) refl $ fjoin ! $ leaves_one ! $ done !))))
