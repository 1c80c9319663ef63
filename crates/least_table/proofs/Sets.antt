-- Lists of hops, and the merge of ascending ones.
use Rattle.std.proofs.Common.{◌≡◌, ℕ, suc, ◌-◌, ◌<◌, true, false, ◌||◌, List, [], ◌∷◌, ◌++◌, length, take, drop, slice_index_or, Option, None, ap, ◌∙◌, append_assoc, take_all, arith, ⊎_elim, refl}
use Rattle.std.proofs.Math.Bool.{or-false}
use Rattle.std.proofs.lemmas.Bool.{cases_Bool}
use Rattle.std.proofs.lemmas.Bool.Decides.{nat_tests}
use Rattle.std.proofs.lemmas.List.Folds.{list_any-append}
use Rattle.least_table.specs.BestHops.{Of, AreMerged}
use Rattle.least_table.specs.HopSets.{is_same_hop, holds, meets}
use Rattle.least_table.specs.InnerRising.{is_less, IsLessAll, IsRising, AreCommon, AreAll, CommonLeft, AllLeft}

pub same_hop-refl : (k : Option ℕ) → is_same_hop k k ≡ true
same_hop-refl k = grind (arith, nat_tests)

pub same_hop-true : (j k : Option ℕ) → is_same_hop j k ≡ true → j ≡ k
same_hop-true j k e = grind (arith, nat_tests)

-- a list of one hop
pub one_holds : (k s : Option ℕ) → holds (k ∷ []) s ≡ is_same_hop s k
one_holds k s = or-false (is_same_hop s k)

pub meets-true : (as' bs : List (Option ℕ)) → meets as' bs ≡ true → (j : Option ℕ) × (holds as' j ≡ true) × (holds bs j ≡ true)
meets-true [] bs e = cc
meets-true (a ∷ as') bs e =
    ⊎_elim (λ f. (a, grind (arith, same_hop-refl a), f)) (λ f. let r = meets-true as' bs (grind arith) in (r.0, grind (arith, r.1), r.2)) (cases_Bool (holds bs a))

-- no hop is in both
pub meets-false : (as' bs : List (Option ℕ)) → meets as' bs ≡ false → (k : Option ℕ) → holds as' k ≡ true → holds bs k ≡ true → ⊥
meets-false [] bs e k f g = cc
meets-false (a ∷ as') bs e k f g = grind (arith, same_hop-true k a, meets-false as' bs)

-- ---- ascending lists

less_all : (x y : Option ℕ) (ys : List (Option ℕ)) → is_less x y ≡ true → IsLessAll y ys → IsLessAll x ys
less_all x y [] e h = tt
less_all x y (z ∷ zs) e h = (less_trans x y z e h.0, less_all x y zs e h.1)
  where
    less_trans : (x y z : Option ℕ) → is_less x y ≡ true → is_less y z ≡ true → is_less x z ≡ true
    less_trans x y z e f = grind (arith, nat_tests)

not_in : (x : Option ℕ) (ys : List (Option ℕ)) → IsLessAll x ys → holds ys x ≡ false
not_in x [] h = refl
not_in x (y ∷ ys) h = rw (not_same x y h.0) (not_in x ys h.1)
  where
    not_same : (x y : Option ℕ) → is_less x y ≡ true → is_same_hop x y ≡ false
    not_same x y e = grind (arith, nat_tests)

-- what is left after a cut ascends
cut_rises : (out cut xs : List (Option ℕ)) → IsRising (out ++ (cut ++ xs)) → IsRising (out ++ xs)
cut_rises [] [] xs h = h
cut_rises [] (c ∷ cut) xs h = cut_rises [] cut xs h.1
cut_rises (o ∷ out) cut xs h = (cut_all out cut h.0, cut_rises out cut xs h.1)
  where
    cut_all : (out cut : List (Option ℕ)) → IsLessAll o (out ++ (cut ++ xs)) → IsLessAll o (out ++ xs)
    cut_all [] [] h = h
    cut_all [] (c ∷ cut) h = cut_all [] cut h.1
    cut_all (p ∷ out) cut h = (h.0, cut_all out cut h.1)

insert_rises : (x y : Option ℕ) (out xs ys : List (Option ℕ)) → is_less x y ≡ true → IsRising (out ++ x ∷ xs) → IsRising (out ++ y ∷ ys) → IsRising (out ++ x ∷ y ∷ ys)
insert_rises x y [] xs ys e h k = ((e, less_all x y ys e k.0), k)
insert_rises x y (o ∷ out) xs ys e h k = (insert_all out h.0 k.0, insert_rises x y out xs ys e h.1 k.1)
  where
    insert_all : (out : List (Option ℕ)) → IsLessAll o (out ++ x ∷ xs) → IsLessAll o (out ++ y ∷ ys) → IsLessAll o (out ++ x ∷ y ∷ ys)
    insert_all [] h k = (h.0, k)
    insert_all (p ∷ out) h k = (h.0, insert_all out h.1 k.1)

holds_pushed : (out : List (Option ℕ)) (x k : Option ℕ) → holds (out ++ x ∷ []) k ≡ (holds out k || is_same_hop k x)
holds_pushed out x k = list_any-append (λ j. is_same_hop k j) out (x ∷ []) ∙ ap (λ u. holds out k || u) (or-false (is_same_hop k x))

-- y and the hops after it are not the lesser x
lesser_out : (x y : Option ℕ) (out ys : List (Option ℕ)) → is_less x y ≡ true → IsRising (out ++ y ∷ ys) → (k : Option ℕ) → is_same_hop k x ≡ true → holds (y ∷ ys) k ≡ false
lesser_out x y out ys e h k f = ap (holds (y ∷ ys)) (same_hop-true k x f) ∙ not_in x (y ∷ ys) (e, less_all x y ys e (cut_rises [] out (y ∷ ys) h).0)

-- ---- the steps of a merge

abbrev pub head : List (Option ℕ) → Option ℕ
head a = slice_index_or a 0 None

abbrev pub tail : List (Option ℕ) → List (Option ℕ)
tail a = take (length a - 1) (drop 1 a)

tail_cons : (x : Option ℕ) (xs : List (Option ℕ)) → tail (x ∷ xs) ≡ xs
tail_cons x xs = take_all (suc (length xs) - 1) xs (omega arith)

module _ (low high out : List (Option ℕ)) where
  pub step_common_low : (a b : List (Option ℕ)) → 0 < length a → 0 < length b → is_less (head a) (head b) ≡ true → CommonLeft low high out a b → CommonLeft low high out (tail a) b
  step_common_low (x ∷ xs) (y ∷ ys) l m e h = rw (tail_cons x xs) (record {
    low_rises = cut_rises out (x ∷ []) xs h.low_rises;
    high_rises = h.high_rises;
    same = λ k. grind (arith, h.same k, lesser_out x y out ys e h.high_rises k);
  })
  step_common_low _ _ l m e h = absurd (omega (arith, l, m))

  pub step_common_high : (a b : List (Option ℕ)) → 0 < length a → 0 < length b → is_less (head b) (head a) ≡ true → CommonLeft low high out a b → CommonLeft low high out a (tail b)
  step_common_high (x ∷ xs) (y ∷ ys) l m e h = rw (tail_cons y ys) (record {
    low_rises = h.low_rises;
    high_rises = cut_rises out (y ∷ []) ys h.high_rises;
    same = λ k. grind (arith, h.same k, lesser_out y x out xs e h.low_rises k);
  })
  step_common_high _ _ l m e h = absurd (omega (arith, l, m))

  pub step_all_low : (a b : List (Option ℕ)) → 0 < length a → 0 < length b → is_less (head a) (head b) ≡ true → AllLeft low high out a b → AllLeft low high (out ++ head a ∷ []) (tail a) b
  step_all_low (x ∷ xs) (y ∷ ys) l m e h = rw (tail_cons x xs) (record {
    low_rises = rw append_assoc h.low_rises;
    high_rises = rw append_assoc (insert_rises x y out xs ys e h.low_rises h.high_rises);
    same = λ k. grind (arith, h.same k, holds_pushed out x k);
  })
  step_all_low _ _ l m e h = absurd (omega (arith, l, m))

  pub step_all_high : (a b : List (Option ℕ)) → 0 < length a → 0 < length b → is_less (head b) (head a) ≡ true → AllLeft low high out a b → AllLeft low high (out ++ head b ∷ []) a (tail b)
  step_all_high (x ∷ xs) (y ∷ ys) l m e h = rw (tail_cons y ys) (record {
    low_rises = rw append_assoc (insert_rises y x out ys xs e h.high_rises h.low_rises);
    high_rises = rw append_assoc h.high_rises;
    same = λ k. grind (arith, h.same k, holds_pushed out y k);
  })
  step_all_high _ _ l m e h = absurd (omega (arith, l, m))

-- what the two make of the best hops of both halves
pub common_merged : (as' bs cs : List (Option ℕ)) → AreCommon as' bs cs → (length cs ≡ 0 → ⊥) → AreMerged (Of as') (Of bs) (Of cs)
common_merged as' bs [] c n k = absurd (n refl)
common_merged as' bs (x ∷ cs) c n k = grind (arith, c.same k, c.same x, same_hop-refl x, meets-false as' bs)

pub all_merged : (as' bs cs ds : List (Option ℕ)) → AreCommon as' bs cs → length cs ≡ 0 → AreAll as' bs ds → AreMerged (Of as') (Of bs) (Of ds)
all_merged as' bs [] ds c e d k = grind (arith, d.same k, c.same, meets-true as' bs)
all_merged as' bs (x ∷ cs) ds c e d k = absurd (omega (arith, e))
