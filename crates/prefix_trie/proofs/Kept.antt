-- What a closure is asked of keys, where another asks it of entries.
use Rattle.std.proofs.Common.{◌≡◌, Bool, List, [], ◌∷◌, refl, ap, sym, ◌∙◌, map, arith}
use Rattle.std.proofs.lemmas.List.{map-append, length-map}
use Rattle.std.specs.List.{items_where_true, FoldsTo}
use Rattle.std.specs.List.Retain.{ReturnsInTurn, IsFiltered}
use Rattle.prefix_trie.specs.Retain.{CallableInTurn}

module _ {F G K X : Type 0} (R : F → K × X → Bool → F → Type 0) (S : G → K → Bool → G → Type 0) (state : F → G) (says : (f : F) (e : K × X) (b : Bool) (g : F) → R f e b g → S (state f) e.0 b (state g)) where
  answers_by : (f : F) (bs : List Bool) (es : List (K × X)) (g : F) → ReturnsInTurn R f bs es g → ReturnsInTurn S (state f) bs (map (λ e. e.0) es) (state g)
  answers_by f [] es g h = ap state h
  answers_by f (b ∷ bs) [] g h = absurd h
  answers_by f (b ∷ bs) (e ∷ es) g h = (state h.0, says f e b h.0 h.1, answers_by h.0 bs es g h.2)

  calls_by : (f : F) (es : List (K × X)) (g : F) → FoldsTo (λ p x q. (b : Bool) × R p x b q) f es g → FoldsTo (λ p x q. (b : Bool) × S p x b q) (state f) (map (λ e. e.0) es) (state g)
  calls_by f [] g h = ap state h
  calls_by f (e ∷ es) g h = (state h.0, (h.1.0, says f e h.1.0 h.0 h.1.1), calls_by h.0 es g h.2)

  -- it may be asked of the entries, where it may be asked of their keys
  pub callable_by : (Q : F → K × X → Type 0) (P : G → K → Type 0) → ((f : F) (e : K × X) → P (state f) e.0 → Q f e) → (f : F) (es : List (K × X)) → CallableInTurn S P (state f) (map (λ e. e.0) es) → CallableInTurn R Q f es
  callable_by Q P asks f es h = record { at = λ before after e f' i c. asks f' e (h.at (map (λ x. x.0) before) (map (λ x. x.0) after) e.0 (state f') (ap (map (λ x. x.0)) i ∙ map-append (λ x. x.0) before (e ∷ after)) (calls_by f before f' c)) }

keys-where : {K X : Type 0} (bs : List Bool) (es : List (K × X)) → map (λ e. e.0) (items_where_true bs es) ≡ items_where_true bs (map (λ e. e.0) es)
keys-where [] es = refl
keys-where (b ∷ bs) [] = refl
keys-where (b ∷ bs) (e ∷ es) = grind (arith, keys-where bs es)

-- where each call of a closure at an entry is one of another at its key, the keys are kept that the other keeps
pub keys_kept : {F G K X : Type 0} (R : F → K × X → Bool → F → Type 0) (S : G → K → Bool → G → Type 0) (state : F → G) → ((f : F) (e : K × X) (b : Bool) (g : F) → R f e b g → S (state f) e.0 b (state g))
    → (f : F) (es fs : List (K × X)) → IsFiltered R f es fs → IsFiltered S (state f) (map (λ e. e.0) es) (map (λ e. e.0) fs)
keys_kept R S state says f es fs h = (h.0, state h.1, h.2 ∙ sym (length-map es (λ e. e.0)), answers_by R S state says f h.0 es h.1 h.3, ap (map (λ e. e.0)) h.4 ∙ keys-where h.0 es)
