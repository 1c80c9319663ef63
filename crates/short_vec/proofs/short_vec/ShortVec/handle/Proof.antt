-- `handle` lends the handle's field. Assumes `Logic`.
use Rattle.short_vec.proofs.Steps.{◌+◌, List, [], ◌∷◌, refl, proved, ftrue, flft, named, a_type, inst_fn, Val, vptr, ‵, raw, ◌⊛◌, ◌$◌, ◌∵◌, !, qed, done, move, keep, use1, split, split3, fsplit, fjoin, feq_i, suffices, enter, addr, stop, fld, returns, alloc_all, pass_all, free_all, look_at, through, sets, RefOf, yes, shr_vals, shr_Tells, ShrRef, hidden_shr, layouts, plain, says, Stays, walk_of, stay_dropped, Goes-dropped, ends_at}
use Rattle.short_vec.proofs.Seen.{V, Fields, seen_in, shows_alloc, leaves_one}
use Rattle.std_heap.specs.contracts.Global as Heap
use Rattle.short_vec.specs.contracts.short_vec.ShortVec.handle as f
use Rattle.short_vec.proofs.short_vec.ShortVec.handle.Statement.{statement}
use Rattle.short_vec.proofs.short_vec.ShortVec.handle.Code as code

pub handle_spec : {M : Type 1} → statement M
handle_spec 𝓤 𝓛 𝓜 𝓡 wired T L =
    let En = f.ended T in let c = f.clauses T 𝓛 𝓜.mem 𝓡.returns in let inst = layouts (a_type ∷ []) (T, tt) in let fn = inst_fn inst code.function in
    let Ref = RefOf (0 ∷ []) tt (plain (λ _. V T)) (λ _. tt) in let hs : Stays En.signature.params En.kept = (stay_dropped Ref yes, tt) in let W = walk_of 𝓛 En hs c in
    proved 𝓛 En hs c 𝓜 𝓡 (Goes-dropped 𝓛 2 Ref yes (λ κs x w. refl), tt) (f.Key.name inst) fn (code.unfolded 𝓤 𝓛.H 𝓜 𝓡 wired (T, tt))
    (λ κs. (shr_vals, tt)) (λ κs. (shr_Tells (named 0) κs.0 (V T), tt)) (λ κs qs bounds a _ are.
    let d = a.0.now in let b = a.0.ref_ptr.0 in let o = a.0.ref_ptr.1 in let vs = shr_vals a.0 in let y : W.Ghost = ((κs, qs, bounds, a, (vs, tt)), tt) in
    qed 𝓛 (((‵ (flft κs.0 qs.0) ⊛ ‵ (flft κs.1.0 qs.1.0) ⊛ ‵ ftrue) ⊛ ‵ ((ShrRef (named 0) κs.0 (V T)).own_val a.0 vs) ⊛ ‵ ftrue) ∷ raw ((c κs a).requires tt) ∷ []) ∵
    split ! $ split3 ! $ move ! (3 ∷ []) $ split ! $ fsplit ! $ keep ! (1 ∷ 3 ∷ 4 ∷ []) $
    enter ! _ _ _ _ _ $ alloc_all ! (λ l. pass_all ! refl ((tt, tt), tt) $
    seen_in T L ! d b o (λ _ _. use1 𝓛 (‵ (hidden_shr Heap.the_row κs.0 d.alloc b (o + 16)) ⊛ ‵ (Fields T κs.0 d b o)) (shows_alloc T L 𝓛 κs.0 d b o) $ split ! $
    sets ! (addr ! (through ! refl (fld ! refl (stop !)))) refl (tt, tt) $
    returns ! (look_at ! 0 refl) $ free_all ! refl $ keep ! (0 ∷ 3 ∷ 4 ∷ []) $
    suffices ! _ (ends_at 𝓛 En hs c y (vptr b (o + 16)) (record { ref_ptr = (b, o + 16); now = d.alloc }) (tt, tt) (tt, tt)) $ says ! refl $
    feq_i ! (List Val) (vptr b (o + 16) ∷ []) (vptr b (o + 16) ∷ []) refl $ fjoin ! $ leaves_one ! $ done !)))
