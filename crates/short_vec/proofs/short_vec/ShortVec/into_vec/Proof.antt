-- The words are written in a `Vec`'s order, and read as a `Vec`: in memory a struct has no name. Assumes `Logic`.
use Rattle.std.proofs.Common.{◌≡◌, ℕ, ◌^◌, ◌<◌, List, [], ◌∷◌, ◌++◌, refl, arith, w32, w64}
use mir.Syntax.{Ty, a_type}
use mir.Val.{Val}
use mir.Raw.{raw as bare}
use mir.MapTy.{inst_fn}
use base.Fraction.{full_share}
use base.Logic.{SProp, emp}
use base.Fml.{fat}
use prog.Wp.{Env, WpFn}
use types.Kit.{‵, raw, ◌⊛◌, prop, at_ret, ◌$◌, ◌∵◌, !, qed, by, move, keep, use0, use1, split, join, regoal, fsplit, fjoin}
use types.Part.{whole, sub, agg}
use types.Run.{stop, fld, from, load, look, addr, un, of_opd, no_more, and_then, first, blocks, exec, returns, enter}
use types.ByLocal.{alloc_all, pass_all, free_all, look_at, take_at, give_at, get, get_in, through, sets, sets_last, env}
use contract.Monad.{fact, fact_i}
use contract.Running.{tables}
use denote.Exit.{no}
use denote.RattleType.{owns}
use denote.Param.{layout, layouts, param}
use denote.Signature.{plain, types_at, type_at}
use denote.Steps.{nothing}
use denote.Triple.Entry.{alive}
use denote.Triple.Walked.{Stays, stay_dropped, walk_of}
use Rattle.core.proofs.alloc.Calls.{Goes-blank}
use Rattle.core.proofs.alloc.Shapes.{after}
use Rattle.core.proofs.cell.Inside.{Good}
use Rattle.std.proofs.raw_atomic.Walks.{proved_at, leaves}
use Rattle.std_alloc.proofs.RcSteps.{Ptr-Good}
use Rattle.std_alloc.proofs.ResultValues.{and_tt}
use Rattle.std_alloc.specs.declared.vec.Vec.{Vec}
use Rattle.std_heap.specs.declared.Global.{Global}
use Rattle.short_vec.specs.formers.short_vec.ShortVec.{as_vec}
use Rattle.short_vec.specs.contracts.short_vec.ShortVec as short
use Rattle.short_vec.specs.contracts.short_vec.vectors.Words as plainly
use Rattle.short_vec.proofs.MachineWords.{words, words_own, told, made}
use Rattle.short_vec.specs.contracts.short_vec.ShortVec.into_vec.{ended, clauses}
use Rattle.short_vec.specs.contracts.short_vec.ShortVec.into_vec.Key.{name as #self}
use Rattle.short_vec.proofs.short_vec.ShortVec.into_vec.Statement.{statement}
use Rattle.short_vec.proofs.short_vec.ShortVec.into_vec.Code as code

pub into_vec_spec : {M : Type 1} → statement M
into_vec_spec 𝓤 𝓛 𝓜 𝓡 wired X L =
    let H = 𝓛.H in let 𝓣 = tables 𝓤 H 𝓜 𝓡 𝓡.env in let En = ended X in let c = clauses X 𝓛 𝓜.mem 𝓡.returns in
    let inst = layouts (a_type ∷ []) (X, tt) in let fn = inst_fn inst code.function in let S = plain (λ _. short.the_row (param 0 X)) in
    let hs : Stays En.signature.params En.kept = (stay_dropped S no, tt) in
    proved_at 𝓛 En hs c 𝓜 𝓡 (Goes-blank 𝓛 1 S no (λ κs x f. tt), tt) (#self inst) fn (code.unfolded 𝓤 H 𝓜 𝓡 wired (X, tt)) (λ z are.
    let Post : Val → SProp 𝓤 = (walk_of 𝓛 En hs c).post z in let d = z.0.3.0 in let v : Vec X.Denot Global = as_vec d in let p = d.ptr in let n : ℕ = d.len in let m : ℕ = d.cap in
    let is = told w32 p n m z.0.4.0 are.0.0 in let long : n < 2 ^ 64 = omega (arith, is.1) in let wide : m < 2 ^ 64 = omega (arith, is.2) in
    let short_good : Good (layout (type_at S z.0.0)) (words w32 p n m) = (and_tt _ (Ptr-Good p).0, ((Ptr-Good p).1, (record { fits = is.1 }, (record { fits = is.2 }, (((tt, tt), tt), tt))))) in
    let good : Good (layout (type_at En.signature.result z.0.0)) (words w64 p n m) = (and_tt _ (Ptr-Good p).0, ((Ptr-Good p).1, (record { fits = long }, (record { fits = wide }, (((tt, tt), tt), tt))))) in
    let Items : Type 0 = d.items ≡ d.items in let Len : Type 0 = n ≡ n in let Capacity : Type 0 = m ≡ m in let Few : Type 0 = m < 2 ^ 32 in
    let plain_ty : Ty = layout plainly.the_row in let vec_ty : Ty = layout (type_at En.signature.result z.0.0) in let u : Val = words w64 p n m in
    qed 𝓛 ((raw (alive 𝓛 En.signature z.0.0 z.0.1) ⊛ ‵ (owns (types_at En.signature.params z.0.0) z.0.3 z.0.4)) ∷ raw ((c z.0.0 z.0.3).requires z.1) ∷ []) ∵
    split ! $ move ! (1 ∷ []) $ fsplit ! $ fsplit ! $ keep ! (1 ∷ 3 ∷ []) $
    regoal ! (λ (us : List Val). prop (WpFn 𝓤 H 𝓣.C 𝓣.Λ fn us Post)) (λ i. is.0 i ++ []) refl $
    enter ! 𝓣.C 𝓣.Λ fn (words w32 p n m ∷ []) Post $ alloc_all ! (λ l. pass_all ! refl (short_good, tt) $ let Ev : Env 𝓤 H = env fn.locals l in
    sets ! (of_opd ! (get_in ! (fld ! refl (stop !)) (sub ! 0 refl (whole !)))) refl (Ptr-Good p) $
    sets ! (of_opd ! (get_in ! (fld ! refl (stop !)) (sub ! 1 refl (whole !)))) refl (tt, record { fits = is.1 }) $
    sets ! (of_opd ! (get_in ! (fld ! refl (stop !)) (sub ! 2 refl (whole !)))) refl (tt, record { fits = is.2 }) $
    sets ! (of_opd ! (get_in ! (fld ! refl (stop !)) (sub ! 3 refl (whole !)))) refl (tt, ((tt, tt), tt)) $
    sets ! (of_opd ! (get ! refl)) refl (Ptr-Good p) $
    sets ! (un ! (get ! refl) (record { fits = long })) refl (tt, record { fits = long }) $
    sets ! (un ! (get ! refl) (record { fits = wide })) refl (tt, record { fits = wide }) $
    sets ! (agg ! (and_then ! (get ! refl) (and_then ! (get ! refl) (and_then ! (get ! refl) (and_then ! (get ! refl) (no_more !)))))) refl good $
    sets ! (addr ! (from ! (stop !))) refl (tt, tt) $
    take_at ! 6 $ use1 𝓛 (‵ (fat full_share (bare plain_ty) (l 6) 0 u)) (𝓛.laws.at_raw full_share plain_ty (l 6) 0 u) $ use1 𝓛 (‵ (fat full_share vec_ty (l 6) 0 u)) (𝓛.laws.raw_at full_share vec_ty (l 6) 0 u) $
    first ! $ blocks ! $ sets_last ! (of_opd ! (load ! (through ! refl (stop !)) (look ! 0 refl))) refl good $
    exec ! 𝓣.C 𝓣.Λ Ev (after 10 fn.body) (at_ret Ev Post) $
    use1 𝓛 (‵ (fat full_share (bare vec_ty) (l 6) 0 u)) (𝓛.laws.at_raw full_share vec_ty (l 6) 0 u) $ use1 𝓛 (‵ (fat full_share plain_ty (l 6) 0 u)) (𝓛.laws.raw_at full_share plain_ty (l 6) 0 u) $ give_at ! 6 $
    sets ! (of_opd ! (get ! refl)) refl good $
    returns ! (look_at ! 0 refl) $ free_all ! refl $
    use0 𝓛 (‵ (words_own w64 p n m (u ∷ []))) (made 𝓛 w64 p n m long wide) $ fjoin ! $ nothing ! $ nothing ! $ fjoin ! $
    use0 𝓛 (raw (fact 𝓤 Few)) (fact_i 𝓤 Few (emp 𝓤) is.2) $ use0 𝓛 (raw (fact 𝓤 Capacity)) (fact_i 𝓤 Capacity (emp 𝓤) refl) $ join ! $ use0 𝓛 (raw (fact 𝓤 Len)) (fact_i 𝓤 Len (emp 𝓤) refl) $ join ! $ use0 𝓛 (raw (fact 𝓤 Items)) (fact_i 𝓤 Items (emp 𝓤) refl) $ join ! $
    keep ! (3 ∷ 1 ∷ 2 ∷ 0 ∷ []) $ by ! (leaves 𝓛 En hs c z u v (tt, tt) (tt, tt))))
