-- A `Vec` is written where its words are read. Assumes `Logic`.
use Rattle.std.proofs.Common.{◌≡◌, ℕ, ◌^◌, ◌<◌, List, [], ◌∷◌, ◌++◌, refl, arith, lit<, w32, w64}
use mir.Syntax.{Ty, a_type}
use mir.Val.{Val}
use mir.Raw.{raw as bare}
use mir.MapTy.{inst_fn}
use base.Fraction.{full_share}
use base.Logic.{SProp, emp}
use base.Fml.{fat}
use prog.Wp.{Env, WpFn}
use types.Kit.{‵, raw, ◌⊛◌, prop, at_ret, ◌$◌, ◌∵◌, !, qed, by, move, keep, use0, use1, split, join, regoal, fsplit, fjoin}
use types.Part.{whole, sub, agg}
use types.Run.{stop, fld, from, lit, store, assigns_last, addr, un, of_opd, no_more, and_then, first, blocks, exec, returns, enter}
use types.ByLocal.{alloc_all, pass_all, free_all, look_at, take_at, give_at, get, get_in, through, sets, env}
use contract.BorrowLft.{◌⊑◌}
use contract.Monad.{fact, fact_i}
use contract.Running.{tables}
use denote.Exit.{yes, no}
use denote.RattleType.{owns}
use denote.RawPtr.{null_ptr}
use denote.Param.{layout, layouts, param}
use denote.Signature.{plain, types_at, type_at}
use denote.Steps.{nothing, heard}
use denote.Triple.Entry.{alive}
use denote.Triple.Walked.{Stays, stay_dropped, walk_of, Goes-dropped}
use Rattle.core.proofs.alloc.Calls.{Goes-blank}
use Rattle.core.proofs.alloc.Shapes.{after}
use Rattle.core.proofs.cell.Inside.{Good}
use Rattle.std.proofs.raw_atomic.Walks.{proved_at, leaves}
use Rattle.std_alloc.proofs.RcSteps.{Ptr-Good}
use Rattle.std_alloc.proofs.ResultValues.{and_tt}
use Rattle.std_heap.proofs.Handle.{heap_val, heap_Tells}
use Rattle.std_heap.specs.contracts.Global as H-type
use Rattle.short_vec.specs.declared.short_vec.ShortVec.{ShortVec}
use Rattle.short_vec.specs.formers.short_vec.ShortVec.{of_vec}
use Rattle.std_alloc.specs.contracts.vec.Vec as V-type
use Rattle.std_heap.specs.contracts.GlobalAllocator.TheImpl.{ghosts as heap}
use Rattle.short_vec.specs.contracts.short_vec.vectors.Words as plainly
use Rattle.short_vec.proofs.MachineWords.{words, words_own, told, made}
use Rattle.short_vec.specs.contracts.short_vec.ShortVec.from_words.{ended, clauses}
use Rattle.short_vec.specs.contracts.short_vec.ShortVec.from_words.Key.{name as #self}
use Rattle.short_vec.proofs.short_vec.ShortVec.from_words.Statement.{statement}
use Rattle.short_vec.proofs.short_vec.ShortVec.from_words.Code as code

pub from_words_spec : {M : Type 1} → statement M
from_words_spec 𝓤 𝓛 𝓜 𝓡 wired X L =
    let H = 𝓛.H in let 𝓣 = tables 𝓤 H 𝓜 𝓡 𝓡.env in let En = ended X in let c = clauses X 𝓛 𝓜.mem 𝓡.returns in
    let inst = layouts (a_type ∷ []) (X, tt) in let fn = inst_fn inst code.function in let G = plain (λ _. H-type.the_row) in let V = plain (λ _. V-type.the_row (param 0 X) H-type.the_row heap) in
    let hs : Stays En.signature.params En.kept = (stay_dropped G yes, (stay_dropped V no, tt)) in
    proved_at 𝓛 En hs c 𝓜 𝓡 (Goes-dropped 𝓛 1 G yes (λ κs x f. refl), (Goes-blank 𝓛 1 V no (λ κs x f. tt), tt)) (#self inst) fn (code.unfolded 𝓤 H 𝓜 𝓡 wired (X, tt)) (λ z are.
    let Post : Val → SProp 𝓤 = (walk_of 𝓛 En hs c).post z in let v = z.0.3.1.0 in let d : ShortVec X.Denot = of_vec v in let p = v.ptr in let n : ℕ = v.len in let m : ℕ = v.cap in
    let is = told w64 p n m z.0.4.1.0 are.1.0.0 in let Few : Type 0 = m < 2 ^ 32 in
    qed 𝓛 ((raw (alive 𝓛 En.signature z.0.0 z.0.1) ⊛ ‵ (owns (types_at En.signature.params z.0.0) z.0.3 z.0.4)) ∷ raw (fact 𝓤 (z.0.0.0 ⊑ X.lives)) ∷ raw (fact 𝓤 Few) ∷ []) ∵
    move ! (2 ∷ []) $ heard ! Few (λ few. let less : n < 2 ^ 32 = omega (arith, few, v.ok.1) in
    let good : Good (layout (type_at V z.0.0)) (words w64 p n m) = (and_tt _ (Ptr-Good p).0, ((Ptr-Good p).1, (record { fits = is.1 }, (record { fits = is.2 }, (((tt, tt), tt), tt))))) in
    let short_good : Good (layout (type_at En.signature.result z.0.0)) (words w32 p n m) = (and_tt _ (Ptr-Good p).0, ((Ptr-Good p).1, (record { fits = less }, (record { fits = few }, (((tt, tt), tt), tt))))) in
    let Items : Type 0 = v.items ≡ v.items in let Len : Type 0 = n ≡ n in let Capacity : Type 0 = m ≡ m in
    let plain_ty : Ty = layout plainly.the_row in let vec_ty : Ty = layout (type_at V z.0.0) in let none : Val = words w64 null_ptr 0 0 in let u : Val = words w64 p n m in
    split ! $ move ! (1 ∷ []) $ fsplit ! $ move ! (1 ∷ []) $ fsplit ! $ fsplit ! $ keep ! (1 ∷ 4 ∷ []) $
    regoal ! (λ (us : List Val). prop (WpFn 𝓤 H 𝓣.C 𝓣.Λ fn us Post)) (λ i. heap_Tells z.0.3.0 z.0.4.0 are.0 i ++ (is.0 i ++ [])) refl $
    enter ! 𝓣.C 𝓣.Λ fn (heap_val ∷ u ∷ []) Post $ alloc_all ! (λ l. pass_all ! refl ((tt, ((tt, tt), tt)), (good, tt)) $ let Ev : Env 𝓤 H = env fn.locals l in
    sets ! (agg ! (and_then ! (lit ! tt) (and_then ! (lit ! tt) (and_then ! (lit ! tt) (and_then ! (get ! refl) (no_more !)))))) refl (tt, (record { fits = lit< tt }, (record { fits = lit< tt }, (record { fits = lit< tt }, (((tt, tt), tt), tt))))) $
    sets ! (addr ! (from ! (stop !))) refl (tt, tt) $
    take_at ! 3 $ use1 𝓛 (‵ (fat full_share (bare plain_ty) (l 3) 0 none)) (𝓛.laws.at_raw full_share plain_ty (l 3) 0 none) $ use1 𝓛 (‵ (fat full_share vec_ty (l 3) 0 none)) (𝓛.laws.raw_at full_share vec_ty (l 3) 0 none) $
    first ! $ blocks ! $ sets ! (of_opd ! (get ! refl)) refl good $ assigns_last ! (of_opd ! (get ! refl)) (through ! refl (stop !)) (store ! 0 refl good) $
    exec ! 𝓣.C 𝓣.Λ Ev (after 3 fn.body) (at_ret Ev Post) $
    use1 𝓛 (‵ (fat full_share (bare vec_ty) (l 3) 0 u)) (𝓛.laws.at_raw full_share vec_ty (l 3) 0 u) $ use1 𝓛 (‵ (fat full_share plain_ty (l 3) 0 u)) (𝓛.laws.raw_at full_share plain_ty (l 3) 0 u) $ give_at ! 3 $
    sets ! (of_opd ! (get_in ! (fld ! refl (stop !)) (sub ! 0 refl (whole !)))) refl (Ptr-Good p) $
    sets ! (of_opd ! (get ! refl)) refl (Ptr-Good p) $
    sets ! (of_opd ! (get_in ! (fld ! refl (stop !)) (sub ! 1 refl (whole !)))) refl (tt, record { fits = is.1 }) $
    sets ! (un ! (get ! refl) (record { fits = less })) refl (tt, record { fits = less }) $
    sets ! (of_opd ! (get_in ! (fld ! refl (stop !)) (sub ! 2 refl (whole !)))) refl (tt, record { fits = is.2 }) $
    sets ! (un ! (get ! refl) (record { fits = few })) refl (tt, record { fits = few }) $
    sets ! (of_opd ! (get_in ! (fld ! refl (stop !)) (sub ! 3 refl (whole !)))) refl (tt, ((tt, tt), tt)) $
    sets ! (agg ! (and_then ! (get ! refl) (and_then ! (get ! refl) (and_then ! (get ! refl) (and_then ! (get ! refl) (no_more !)))))) refl short_good $
    returns ! (look_at ! 0 refl) $ free_all ! refl $
    use0 𝓛 (‵ (words_own w32 p n m (words w32 p n m ∷ []))) (made 𝓛 w32 p n m less few) $ fjoin ! $ nothing ! $ nothing ! $ fjoin ! $ nothing ! $ fjoin ! $
    use0 𝓛 (raw (fact 𝓤 Capacity)) (fact_i 𝓤 Capacity (emp 𝓤) refl) $ use0 𝓛 (raw (fact 𝓤 Len)) (fact_i 𝓤 Len (emp 𝓤) refl) $ join ! $ use0 𝓛 (raw (fact 𝓤 Items)) (fact_i 𝓤 Items (emp 𝓤) refl) $ join ! $
    keep ! (3 ∷ 1 ∷ 2 ∷ 0 ∷ []) $ by ! (leaves 𝓛 En hs c z (words w32 p n m) d (tt, (tt, tt)) (tt, (tt, tt))))))
