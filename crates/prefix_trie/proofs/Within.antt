-- The keys inside a bit string stand together in the order of a walk.
use Rattle.std.proofs.Common.{◌≡◌, ◌≤◌, Bool, true, false, cond, ◌&&◌, List, [], ◌∷◌, length, take, refl, sym, ap, ◌∙◌, inl, inr, T, Some, None, Less, is_lt, append-nil, arith}
use Rattle.std.specs.FinMap.{is_sorted}
use Rattle.std.specs.FinMap.Entries.{where_key, below_all, is_sorted-where_key}
use Rattle.std.proofs.lemmas.Bool.{false_from_ne_true, false≢true, not-true, cases_Bool}
use Rattle.ipnet_addr.proofs.Basics.{T-parts, less_from_T}
use Rattle.trie_core.specs.Bits.{is_from}
use Rattle.ipnet_blocks.specs.BitStrings.{bits_cmp, begins}
use Rattle.trie_core.proofs.Strings.{same}
use Rattle.trie_core.proofs.Maps.{tail_rises}
use Rattle.trie_core.proofs.Frames.{where_twice}
use Rattle.prefix_trie.specs.Maps.{first_key}
use Rattle.prefix_trie.proofs.Asked.{not_after}
use Rattle.trie_core.proofs.Order.{is_less}
use Rattle.ipnet_blocks.proofs.BitStrings.{begins_on}

-- ---- strings

-- a string begins another where the other's first bits are it
pub begins_first : (p k : List Bool) → length p ≤ length k → same p (take (length p) k) ≡ begins p k
begins_first [] k h = refl
begins_first (x ∷ p) [] h = absurd (omega arith)
begins_first (x ∷ p) (y ∷ k) h = grind (arith, begins_first p k)

pub begins_itself : (p : List Bool) → begins p p ≡ true
begins_itself p = ap (begins p) (sym (append-nil p)) ∙ begins_on p []

-- what lies between two strings inside p lies inside p
between : (p q k j : List Bool) → begins p q ≡ true → is_lt (bits_cmp k q) ≡ false → is_lt (bits_cmp j k) ≡ false → begins p j ≡ true → begins p k ≡ true
between [] q k j b l m c = refl
between (x ∷ p) q k j b l m c = grind (arith, between p)

not_lower : (q k : List Bool) (i : Bool) → is_from q i k ≡ true → is_lt (bits_cmp k q) ≡ false
not_lower q k true e = not-true _ e
not_lower q k false e = not_after q k (is_less (bits_cmp q k) e)

-- what lies inside p comes from p on
from_itself : (p k : List Bool) → begins p k ≡ true → is_from p true k ≡ true
from_itself [] [] h = refl
from_itself [] (x ∷ k) h = refl
from_itself (x ∷ p) k h = grind (arith, from_itself p)

pub all_inside : (p : List Bool) → (λ k. is_from p true k && begins p k) ≡ begins p
all_inside p = λ i k. both_by (is_from p true k) (begins p k) (from_itself p k) i
  where
    both_by : (a b : Bool) → (b ≡ true → a ≡ true) → (a && b) ≡ b
    both_by a b h = grind arith

module _ {X : Type 0} where
  none_later : (p n : List Bool) (es : List (List Bool × X)) → T (below_all bits_cmp n es) → ((k : List Bool) → bits_cmp n k ≡ Less → begins p k ≡ false) → where_key bits_cmp (begins p) es ≡ []
  none_later p n [] h f = refl
  none_later p n (e ∷ es) h f =
      let t = T-parts _ _ h in
      ap (λ b. cond b (e ∷ where_key bits_cmp (begins p) es) (where_key bits_cmp (begins p) es)) (f e.0 (less_from_T _ t.0)) ∙ none_later p n es t.1 f

  inside_by : (p q : List Bool) (i : Bool) (k : List Bool) (fs : List (List Bool × X)) → begins p q ≡ true → is_from q i k ≡ true → T (below_all bits_cmp k fs) → begins p k ≡ false → where_key bits_cmp (begins p) fs ≡ []
  inside_by p q i k fs b f h e = none_later p k fs h (λ j l. false_from_ne_true (begins p j) (λ c. false≢true (sym e ∙ between p q k j b (not_lower q k i f) (not_after k j l) c)))

  where_true : (p : List Bool → Bool) (es : List (List Bool × X)) (e : List Bool × X) (fs : List (List Bool × X)) → where_key bits_cmp p es ≡ e ∷ fs → p e.0 ≡ true
  where_true p [] e fs h = cc
  where_true p (d ∷ es) e fs h = elim (cases_Bool (p d.0)) [
    | inl b ↦ let w : d ∷ where_key bits_cmp p es ≡ e ∷ fs = ap (λ t. cond t (d ∷ where_key bits_cmp p es) (where_key bits_cmp p es)) (sym b) ∙ h in let v : d ≡ e = cc in ap (λ x. p x.0) (sym v) ∙ b
    | inr b ↦ where_true p es e fs (ap (λ t. cond t (d ∷ where_key bits_cmp p es) (where_key bits_cmp p es)) (sym b) ∙ h)
  ]

  stays_by : (p k : List Bool) (fs : List (List Bool × X)) → Some k ≡ first_key fs → begins p k ≡ true → Some k ≡ first_key (where_key bits_cmp (begins p) fs)
  stays_by p k [] e b = cc
  stays_by p k (d ∷ fs) e b = let w : k ≡ d.0 = cc in e ∙ ap (λ t. first_key (cond t (d ∷ where_key bits_cmp (begins p) fs) (where_key bits_cmp (begins p) fs))) (sym b ∙ ap (begins p) w)

  past_by : (p q : List Bool) (i : Bool) (k : List Bool) (es fs : List (List Bool × X)) → where_key bits_cmp (is_from q i) es ≡ fs → T (is_sorted bits_cmp fs) → Some k ≡ first_key fs → begins p q ≡ true → begins p k ≡ false → None ≡ first_key (where_key bits_cmp (begins p) fs)
  past_by p q i k es [] h s e b c = refl
  past_by p q i k es (d ∷ fs) h s e b c =
      let w : k ≡ d.0 = cc in
      let f : begins p d.0 ≡ false = ap (begins p) (sym w) ∙ c in
      sym (ap (λ t. first_key (cond t (d ∷ where_key bits_cmp (begins p) fs) (where_key bits_cmp (begins p) fs))) f ∙ ap first_key (inside_by p q i d.0 fs b (where_true (is_from q i) es d fs h) (tail_rises d fs s).1 f))

  none_by : (p : List Bool) (fs : List (List Bool × X)) → None ≡ first_key fs → None ≡ first_key (where_key bits_cmp (begins p) fs)
  none_by p [] e = refl
  none_by p (d ∷ fs) e = cc

  -- the first of the entries from q on, told of those inside p
  module _ (p q : List Bool) (i : Bool) (es : List (List Bool × X)) where
    both_tests : where_key bits_cmp (begins p) (where_key bits_cmp (is_from q i) es) ≡ where_key bits_cmp (λ k. is_from q i k && begins p k) es
    both_tests = where_twice bits_cmp (begins p) (is_from q i) es

    pub key_stays : (k : List Bool) → Some k ≡ first_key (where_key bits_cmp (is_from q i) es) → true ≡ begins p k → Some k ≡ first_key (where_key bits_cmp (λ k. is_from q i k && begins p k) es)
    key_stays k e b = stays_by p k _ e (sym b) ∙ ap first_key both_tests

    pub key_past : (k : List Bool) → T (is_sorted bits_cmp es) → Some k ≡ first_key (where_key bits_cmp (is_from q i) es) → begins p q ≡ true → false ≡ begins p k → None ≡ first_key (where_key bits_cmp (λ k. is_from q i k && begins p k) es)
    key_past k s e b c = past_by p q i k es _ refl (is_sorted-where_key bits_cmp (is_from q i) es s) e b (sym c) ∙ ap first_key both_tests

    pub key_none : None ≡ first_key (where_key bits_cmp (is_from q i) es) → None ≡ first_key (where_key bits_cmp (λ k. is_from q i k && begins p k) es)
    key_none e = none_by p _ e ∙ ap first_key both_tests
