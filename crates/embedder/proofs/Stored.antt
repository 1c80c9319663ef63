-- What callers of maps need of finite maps, and of what closures may be called at.
use Rattle.std.proofs.Common.{◌≡◌, ◌∙◌, ap, sym, subst, List, ◌∷◌, Bool, true, false, cond, refl, length, take, arith, nat_lt}
use Rattle.std.specs.Prelude.{Option, Some, None, option_map}
use Rattle.std.specs.FinMap.{get, insert, remove, get-insert, get-remove, same_map}
use Rattle.std.specs.List.{All, Contains}
use Rattle.std.proofs.lemmas.List.Elements.{All-contains, Contains-append_right}
use Rattle.std.proofs.Math.Seq.{take-length}
use Rattle.std.proofs.lemmas.Bool.Decides.{nat_tests}
use Rattle.std.proofs.lemmas.Option.{none-some}
use Rattle.trie_core.specs.Nodes.{BitMap}
use Rattle.trie_core.specs.Search.{NoBeginning}
use Rattle.trie_core.proofs.Strings.{bits_total, bits_same, same, same-Decides}
use Rattle.prefix_trie.specs.Maps.{IsLongestKey}
use Rattle.prefix_trie.specs.Retain.{CallableInTurn}

-- a closure that takes each element with P may be called at elements that all have it
pub callable_at : {F E : Type 0} (R : F → E → Bool → F → Type 0) (Q : F → E → Type 0) (P : E → Type 0) → ((f : F) (e : E) → P e → Q f e) → (f : F) (es : List E) → All P es → CallableInTurn R Q f es
callable_at R Q P takes f es all = record { at = λ before after e g i calls. takes g e (All-contains P es e all (subst (λ l. Contains l e) (sym i) (Contains-append_right before (e ∷ after) e (0, omega arith, refl)))) }

module _ {X : Type 0} where
  same_get : (m : BitMap X) (q : List Bool) (w : X) → get m q ≡ None → (x : List Bool) (b : Bool) → (b ≡ true → x ≡ q) → cond b None (cond b (Some w) (get m x)) ≡ get m x
  same_get m q w h x true f = sym (ap (get m) (f refl) ∙ h)
  same_get m q w h x false f = refl

  -- a new key, taken out again
  pub put_back : (m n k : BitMap X) (q : List Bool) (w : X) → get m q ≡ None → n ≡ insert m q w → k ≡ remove n q → k ≡ m
  put_back m n k q w h e f =
      f ∙ ap (λ y. remove y q) e ∙ same_map bits_total bits_same (remove (insert m q w) q) m (λ x.
      get-remove bits_total (insert m q w) q x
      ∙ ap (λ y. cond (same x q) None y) (get-insert bits_total m q w x)
      ∙ same_get m q w h x (same x q) (λ t. (same-Decides x q).0 t))

  -- a stored key has a longest match
  pub is_matched : (m : BitMap X) (q : List Bool) (w : X) → get m q ≡ Some w → NoBeginning m q → ⊥
  is_matched m q w h n = none-some w (sym (n (length q) (omega arith)) ∙ ap (get m) (take-length q) ∙ h)

  module _ {K : Type 0} (fits : K → Bool) (bits : K → List Bool) (of_bits : List Bool → K) (m : BitMap X) (q : List Bool) (w : X) (h : get m q ≡ Some w) (k : K) (v : X) (l : IsLongestKey fits bits of_bits m q k v) where
    whole : length (bits k) ≡ length q
    whole = by_less (nat_lt (length (bits k)) (length q)) refl
      where
        by_less : (b : Bool) → nat_lt (length (bits k)) (length q) ≡ b → length (bits k) ≡ length q
        by_less true e = absurd (none-some w (sym (l.longest.longest (length q) (grind (arith, nat_tests, e)) (omega arith)) ∙ ap (get m) (take-length q) ∙ h))
        by_less false e = let o = l.longest.within in grind (arith, nat_tests, e, o)

    -- which is itself, with its value
    pub itself : ◌≡◌ {A = Option (K × X)} (Some (k, v)) (Some (of_bits q, w))
    itself =
        let s : bits k ≡ q = l.beginning ∙ ap (λ n. take n q) whole ∙ take-length q in
        let e : ◌≡◌ {A = Option X} (Some v) (Some w) = sym l.longest.found ∙ ap (λ n. get m (take n q)) whole ∙ ap (get m) (take-length q) ∙ h in
        (λ i. let j : K = (l.rebuilt ∙ ap of_bits s) i in option_map (λ u. (j, u)) (e i))
