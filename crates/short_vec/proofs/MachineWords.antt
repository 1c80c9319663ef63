-- The four words of a list, a pointer, two counts of one width and the heap's handle: what a struct of them owns tells them, and is made of nothing.
use Rattle.std.proofs.Common.{◌≡◌, ℕ, ◌^◌, ◌<◌, List, [], ◌∷◌, ◌++◌, refl, ◌∙◌}
use seplogic.Ra.Ura.{Ura}
use mir.Syntax.{Width}
use mir.Val.{Val, vunit, vint, vstruct, vcons, vnil, of_list, bits}
use base.Logic.{ent, emp}
use base.Fml.{Fml}
use types.Logic.{Logic, sem}
use denote.Plain.{UInt}
use denote.RawPtr.{Ptr, RawPtr, ptr_val}
use denote.Shadow.{shadow, makes_shadow}
use denote.Struct.Struct.{Struct}
use Rattle.std_heap.proofs.Handle.{heap_val, handle, heap_Tells}
use Rattle.std_heap.specs.contracts.Global as H-type

abbrev pub words : Width → Ptr → ℕ → ℕ → Val
words w p n c = vstruct (vcons (ptr_val p) (vcons (vint w n) (vcons (vint w c) (vcons heap_val vnil))))

-- a struct by its fields alone: what it owns does not read its name
abbrev pub words_own : Width → Ptr → ℕ → ℕ → List Val → Fml
words_own w p n c = (Struct (record { name = []; args = []; types = []; fields = RawPtr ∷ UInt w ∷ UInt w ∷ H-type.the_row ∷ [] })).own_val (p, (n, (c, (handle, tt))))

pub told : (w : Width) (p : Ptr) (n c : ℕ) (vs : List Val) → shadow (words_own w p n c vs) → (vs ≡ words w p n c ∷ []) × (n < 2 ^ bits w) × (c < 2 ^ bits w)
told w p n c vs s =
    (s.1.0 ∙ (λ i. vstruct (of_list (s.1.1.0 i ++ (s.1.1.1.0.0 i ++ (s.1.1.1.1.0.0 i ++ (heap_Tells handle s.0.1.1.1.0 s.1.1.1.1.1.0 i ++ []))))) ∷ []), s.1.1.1.0.1, s.1.1.1.1.0.1)

pub made : {M : Type 1} {𝓤 : Ura M} (𝓛 : Logic 𝓤) (w : Width) (p : Ptr) (n c : ℕ) → n < 2 ^ bits w → c < 2 ^ bits w → ent 𝓤 (emp 𝓤) (sem 𝓛 (words_own w p n c (words w p n c ∷ [])))
made 𝓛 w p n c f g = makes_shadow 𝓛 (words_own w p n c (words w p n c ∷ [])) (λ _. (tt, (tt, ((tt, tt), ((tt, tt), ((λ _. (tt, ((λ _. (tt, (tt, tt))), tt))), tt))))))
    ((ptr_val p ∷ [], (vint w n ∷ [], (vint w c ∷ [], (heap_val ∷ [], tt)))), (refl, (refl, ((refl, f), ((refl, g), (((vstruct (vcons vunit vnil) ∷ [], tt), (refl, (((vunit ∷ [], tt), (refl, (refl, tt))), tt))), tt))))))
