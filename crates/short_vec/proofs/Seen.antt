-- A list is read through a `&`, one field at a time. Assumes `Logic`.
--     seen_in              what a `&` to a list shows: a `&` to its fields, and its items
--     number_in, number_out    a 32-bit field is opened, and shut
use Rattle.short_vec.proofs.Steps.{ℕ, ◌+◌, ◌*◌, fsep, join, ◌<◌, ◌^◌, List, [], ◌∷◌, refl, Ura, ent, sep, Lft, Share, Fml, ftrue, fat, flft, fhide, w32, ty_int, Val, vint, fact, Logic, sem, Goal, Soaks, Step, step, Seq, Item, ‵, raw, ◌⊛◌, ◌$◌, ◌∵◌, !, qed, done, move, keep, drop, use1, split, fsplit, fjoin, feq_i, feq_l, flt_i, flt_l, rewrite, u32, RattleType, RowLaws, mem, hidden_shr, cell_at, part_at, uint_row_laws, RawPtr, block_of, count_of, InBlock, ptr_row_laws, param, Laws, nothing, heard, looks, shuts}
use denote.Copied.{uint_Copied}
use denote.Opens.{Shut, shr_dup, unhide, hide}
use denote.Slice.{elements_shared}
use denote.Struct.Struct.{Struct, Struct-row_laws}
use denote.Struct.Owning.{shape, to}
use denote.Struct.Lending.{in_block_says, lent_out}
use denote.SharingLaws.{beside_shr_laws}
use Rattle.std_heap.specs.contracts.Global as Heap
use Rattle.std_heap.proofs.Global.TheLaws as heap
use Rattle.std_alloc.proofs.SharedLaws.{lent_shr_laws}
use Rattle.std_alloc.specs.Vec.Ownership.{vec_shares}
use Rattle.short_vec.specs.declared.short_vec.ShortVec.{ShortVec}
use Rattle.short_vec.specs.contracts.short_vec.ShortVec as S

module _ (T : RattleType) where
  abbrev pub R : RattleType
  R = param 0 T

  -- the row of the list
  abbrev pub V : RattleType
  V = S.the_row R

  abbrev pub D : Type 0
  D = ShortVec T.Denot

  abbrev pub Words : RattleType
  Words = Struct (shape (S.the_type R))

  -- a `&` to its fields
  abbrev pub Fields : Lft → D → ℕ → ℕ → Fml
  Fields κ d b o = hidden_shr Words κ (to (S.the_type R) d) b o

  -- a `&` to its items
  abbrev pub Items : Lft → D → Fml
  Items κ d = fhide (elements_shared R d.items (block_of d.ptr) (count_of d.ptr) κ)

module _ (T : RattleType) (L : Laws T) where
  words_laws : RowLaws (Words T)
  words_laws = Struct-row_laws (shape (S.the_type (R T))) (ptr_row_laws, (uint_row_laws w32, (uint_row_laws w32, (heap.the_field_shared.shr_laws, tt))))

  laws : RowLaws (V T)
  laws d b o = beside_shr_laws ((Words T).shr_at (to (S.the_type (R T)) d) b o) (vec_shares (R T) d.ptr d.len d.cap d.items) (words_laws (to (S.the_type (R T)) d) b o) (lent_shr_laws (R T) L.shr_laws d.ptr d.len d.cap d.items)

  module _ {M : Type 1} {𝓤 : Ura M} {𝓛 : Logic 𝓤} {K : Type 0} {Γ : List (Item 𝓤)} {G : Goal 𝓤 𝓛.H} where
    pub seen_in : K → {κ : Lft} (d : D T) (b o : ℕ) → (InBlock d.ptr → d.cap * (mem (R T)).size < 2 ^ 63 → Seq K 𝓛 (‵ (Fields T κ d b o) ∷ ‵ (Items T κ d) ∷ Γ) G) → Seq K 𝓛 (‵ (hidden_shr (V T) κ d b o) ∷ Γ) G
    seen_in t {κ} d b o k =
        use1 𝓛 (‵ (Fields T κ d b o) ⊛ ‵ (fhide (S.the_lent (R T) d d.ptr κ))) (lent_out 𝓛 (S.struct (R T)) (S.the_codes T.Denot (R T).coded Heap.the_row.coded) (S.the_heap (R T)) (S.the_lent (R T)) κ d b o) $ split t $
        move t (1 ∷ []) $ unhide t $ fsplit t $ flt_l t (λ fit. fsplit t $ use1 𝓛 (raw (fact 𝓤 (InBlock d.ptr))) (in_block_says 𝓛 d.ptr) $ heard t (InBlock d.ptr) (λ inside. fsplit t $ drop t $ hide t $ move t (1 ∷ 0 ∷ []) $ k inside fit))

  module _ {M : Type 1} {𝓤 : Ura M} (𝓛 : Logic 𝓤) (κ : Lft) (d : D T) (b o : ℕ) where
    abbrev F : Fml
    F = Fields T κ d b o

    pub shows_ptr : ent 𝓤 (sem 𝓛 F) (sep 𝓤 (sem 𝓛 (hidden_shr RawPtr κ d.ptr b (o + 0))) (sem 𝓛 F))
    shows_ptr = qed 𝓛 (‵ F ∷ []) ∵ shr_dup ! (Words T) words_laws (to (S.the_type (R T)) d) b o κ $ unhide ! $ fsplit ! $ fsplit ! $ hide ! $ keep ! (0 ∷ 3 ∷ []) $ done !

    pub shows_len : ent 𝓤 (sem 𝓛 F) (sep 𝓤 (sem 𝓛 (hidden_shr u32 κ d.len b (o + 8))) (sem 𝓛 F))
    shows_len = qed 𝓛 (‵ F ∷ []) ∵ shr_dup ! (Words T) words_laws (to (S.the_type (R T)) d) b o κ $ unhide ! $ fsplit ! $ fsplit ! $ drop ! $ fsplit ! $ hide ! $ keep ! (0 ∷ 3 ∷ []) $ done !

    pub shows_cap : ent 𝓤 (sem 𝓛 F) (sep 𝓤 (sem 𝓛 (hidden_shr u32 κ d.cap b (o + 12))) (sem 𝓛 F))
    shows_cap = qed 𝓛 (‵ F ∷ []) ∵ shr_dup ! (Words T) words_laws (to (S.the_type (R T)) d) b o κ $ unhide ! $ fsplit ! $ fsplit ! $ drop ! $ fsplit ! $ drop ! $ fsplit ! $ hide ! $ keep ! (0 ∷ 3 ∷ []) $ done !

    pub shows_alloc : ent 𝓤 (sem 𝓛 F) (sep 𝓤 (sem 𝓛 (hidden_shr Heap.the_row κ d.alloc b (o + 16))) (sem 𝓛 F))
    shows_alloc = qed 𝓛 (‵ F ∷ []) ∵ shr_dup ! (Words T) words_laws (to (S.the_type (R T)) d) b o κ $ unhide ! $ fsplit ! $ fsplit ! $ drop ! $ fsplit ! $ drop ! $ fsplit ! $ drop ! $ fsplit ! $ hide ! $ keep ! (0 ∷ 3 ∷ []) $ done !

module _ {M : Type 1} {𝓤 : Ura M} {𝓛 : Logic 𝓤} {K : Type 0} {Γ : List (Item 𝓤)} {G : Goal 𝓤 𝓛.H} where
  -- [the number; the way back; what shows it]
  pub number_in : K → Soaks G → {κ : Lft} {q : Share} {F : Fml} (n b at : ℕ) → ent 𝓤 (sem 𝓛 F) (sep 𝓤 (sem 𝓛 (hidden_shr u32 κ n b at)) (sem 𝓛 F))
      → ((q' : Share) → n < 2 ^ 32 → Seq K 𝓛 (‵ (fat q' (ty_int w32) b at (vint w32 n)) ∷ Shut 𝓛 κ q (part_at u32 q' n b at) ∷ ‵ F ∷ Γ) G) → Seq K 𝓛 (‵ F ∷ ‵ (flft κ q) ∷ Γ) G
  number_in t z {κ} {q} {F} n b at shown k =
      use1 𝓛 (‵ (hidden_shr u32 κ n b at) ⊛ ‵ F) shown $ split t $ move t (0 ∷ 2 ∷ []) $ looks t z u32 (uint_Copied 𝓛 w32).opens n b at (λ q' vs. move t (1 ∷ []) $ fsplit t $ feq_l t (λ e. flt_l t (λ low.
      rewrite t 0 (λ (us : List Val). ‵ (cell_at q' u32.mir us b at)) e refl $ move t (2 ∷ []) $ drop t $ k q' low)))

  pub number_out : K → Soaks G → {κ : Lft} {q q' : Share} (n b at : ℕ) → n < 2 ^ 32 → Step K 𝓛 (‵ (flft κ q) ∷ Γ) G (‵ (fat q' (ty_int w32) b at (vint w32 n)) ∷ Shut 𝓛 κ q (part_at u32 q' n b at) ∷ Γ) G
  number_out t z {q' = q'} n b at low = step (λ s.
      flt_i t n (2 ^ 32) low $ feq_i t (List Val) (vint w32 n ∷ []) (vint w32 n ∷ []) refl $ fjoin t $ move t (1 ∷ 0 ∷ []) $ shuts t z u32 q' n (vint w32 n ∷ []) b at $ s)

-- the end of a function of one parameter, of which nothing is left: its result, and the two tokens
module _ {M : Type 1} {𝓤 : Ura M} {𝓛 : Logic 𝓤} {K : Type 0} {Γ : List (Item 𝓤)} {G : Goal 𝓤 𝓛.H} where
  pub leaves_one : K → {κ κ' : Lft} {q q' : Share} {O : Fml} → Step K 𝓛 (((‵ (flft κ q) ⊛ ‵ (flft κ' q') ⊛ ‵ ftrue) ⊛ (‵ (fsep ftrue ftrue) ⊛ ‵ O)) ∷ Γ) G (‵ O ∷ ‵ (flft κ q) ∷ ‵ (flft κ' q') ∷ Γ) G
  leaves_one t = step (λ s. nothing t $ nothing t $ fjoin t $ join t $ nothing t $ move t (3 ∷ 0 ∷ []) $ join t $ move t (2 ∷ 0 ∷ []) $ join t $ join t $ s)

  -- the same of two parameters
  pub leaves_two : K → {κ κ' : Lft} {q q' : Share} {O : Fml} → Step K 𝓛 (((‵ (flft κ q) ⊛ ‵ (flft κ' q') ⊛ ‵ ftrue) ⊛ (‵ (fsep ftrue (fsep ftrue ftrue)) ⊛ ‵ O)) ∷ Γ) G (‵ O ∷ ‵ (flft κ q) ∷ ‵ (flft κ' q') ∷ Γ) G
  leaves_two t = step (λ s. nothing t $ nothing t $ nothing t $ fjoin t $ move t (1 ∷ 0 ∷ []) $ fjoin t $ join t $ nothing t $ move t (3 ∷ 0 ∷ []) $ join t $ move t (2 ∷ 0 ∷ []) $ join t $ join t $ s)
