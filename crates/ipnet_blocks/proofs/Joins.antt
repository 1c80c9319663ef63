-- Joining spans of numbers, one after another.
use Rattle.std.proofs.Common.{◌≡◌, ◌+◌, ◌-◌, ◌<◌, ◌≤◌, inl, inr, ⊎_elim, refl, sym, ap, subst, arith, max, List, [], ◌∷◌, ◌++◌, length, take, drop, get_or}
use Rattle.std.proofs.lemmas.List.{take_rest}
use Rattle.std.specs.List.Sorted.{IsPermutation}
use Rattle.std.proofs.lemmas.Bool.{cases_lt}
use Rattle.std.proofs.lemmas.List.Sorted.{IsPermutation-sym}
use Rattle.ipnet_blocks.specs.declared.aggregate.Span.{Span}
use Rattle.ipnet_blocks.specs.InnerSpans.{IsIn, HasNumber, IsApart, AreJoined}
use Rattle.ipnet_addr.proofs.Members.{In, In-left, In-right, In-cases}
use Rattle.ipnet_addr.proofs.Ascending.{In-from_All, All-from_In, Rising, Rising-from_pairs, pairs_from_Rising}
use Rattle.ipnet_blocks.proofs.Lists.{any_left, any_right, any_cases, any_one, one_any, any_permutation, rising_append, rising_cross, rising_front}

module _ (given out : List Span) (o n : Span) (m : AreJoined given (out ++ o ∷ [])) (has : HasNumber n) where
  up : Rising IsApart (out ++ o ∷ [])
  up = Rising-from_pairs IsApart (out ++ o ∷ []) m.apart

  some : (s : Span) → In s (out ++ o ∷ []) → HasNumber s
  some = In-from_All HasNumber (out ++ o ∷ []) m.some

  open_has : HasNumber o
  open_has = some o (In-right o out (o ∷ []) (inl refl))

  -- the next span overlaps or touches the open one
  pub join_more : o.first ≤ n.first → n.first ≤ o.last + 1 → AreJoined (given ++ n ∷ []) (out ++ record { first = o.first; last = max o.last n.last } ∷ [])
  join_more low near =
      let wide : Span = record { first = o.first; last = max o.last n.last } in
      let p = open_has in
      record {
        same = λ x. (
          (λ h. elim (any_cases (IsIn x) given (n ∷ []) h) [
            | inl g ↦ elim (any_cases (IsIn x) out (o ∷ []) ((m.same x).0 g)) [
              | inl a ↦ any_left (IsIn x) out (wide ∷ []) a
              | inr b ↦ let i = one_any (IsIn x) o b in any_right (IsIn x) out (wide ∷ []) (any_one (IsIn x) wide (omega arith, omega arith))
            ]
            | inr b ↦ let i = one_any (IsIn x) n b in any_right (IsIn x) out (wide ∷ []) (any_one (IsIn x) wide (omega arith, omega arith))
          ]),
          (λ h. elim (any_cases (IsIn x) out (wide ∷ []) h) [
            | inl a ↦ any_left (IsIn x) given (n ∷ []) ((m.same x).1 (any_left (IsIn x) out (o ∷ []) a))
            | inr b ↦
                let i = one_any (IsIn x) wide b in
                elim (cases_lt o.last x) [
                  | inl past ↦ any_right (IsIn x) given (n ∷ []) (any_one (IsIn x) n (omega arith, omega arith))
                  | inr in_open ↦ any_left (IsIn x) given (n ∷ []) ((m.same x).1 (any_right (IsIn x) out (o ∷ []) (any_one (IsIn x) o (omega arith, omega arith))))
                ]
          ]),
        );
        apart = pairs_from_Rising IsApart (out ++ wide ∷ [])
            (rising_append IsApart out (wide ∷ []) (rising_front IsApart out (o ∷ []) up) ((λ y i. absurd i), tt) (λ x y i j. ⊎_elim
            (λ e. let a = rising_cross IsApart out (o ∷ []) up x o i (inl refl) in subst (IsApart x) (sym e) a)
            (λ no_more. absurd no_more)
            j));
        some = All-from_In HasNumber (out ++ wide ∷ []) (λ s i. ⊎_elim
            (λ j. some s (In-left s out (o ∷ []) j))
            (λ j. ⊎_elim (λ e. subst HasNumber (sym e) (omega arith)) (λ no_more. absurd no_more) j)
            (In-cases s out (wide ∷ []) i));
      }

  -- numbers lie between the open one and the next
  pub join_next : o.last + 1 < n.first → AreJoined (given ++ n ∷ []) ((out ++ o ∷ []) ++ n ∷ [])
  join_next far =
      let p = open_has in
      let all = out ++ o ∷ [] in
      record {
        same = λ x. (
          (λ h. elim (any_cases (IsIn x) given (n ∷ []) h) [ inl g ↦ any_left (IsIn x) all (n ∷ []) ((m.same x).0 g) | inr b ↦ any_right (IsIn x) all (n ∷ []) b ]),
          (λ h. elim (any_cases (IsIn x) all (n ∷ []) h) [ inl g ↦ any_left (IsIn x) given (n ∷ []) ((m.same x).1 g) | inr b ↦ any_right (IsIn x) given (n ∷ []) b ]),
        );
        apart = pairs_from_Rising IsApart (all ++ n ∷ [])
            (rising_append IsApart all (n ∷ []) up ((λ y i. absurd i), tt) (λ x y i j. ⊎_elim
            (λ e. subst (IsApart x) (sym e) (⊎_elim
            (λ k. let a = rising_cross IsApart out (o ∷ []) up x o k (inl refl) in omega arith)
            (λ k. ⊎_elim (λ q. subst (λ (s : Span). IsApart s n) (sym q) far) (λ no_more. absurd no_more) k)
            (In-cases x out (o ∷ []) i)))
            (λ no_more. absurd no_more)
            j));
        some = All-from_In HasNumber (all ++ n ∷ []) (λ s i. ⊎_elim
            (λ j. some s j)
            (λ j. ⊎_elim (λ e. subst HasNumber (sym e) has) (λ no_more. absurd no_more) j)
            (In-cases s all (n ∷ []) i));
      }

pub join_one : (s : Span) → HasNumber s → AreJoined (s ∷ []) (s ∷ [])
join_one s has = record {
  same = λ x. ((λ h. h), (λ h. h));
  apart = pairs_from_Rising IsApart (s ∷ []) ((λ y i. absurd i), tt);
  some = All-from_In HasNumber (s ∷ []) (λ a i. ⊎_elim (λ e. subst HasNumber (sym e) has) (λ no_more. absurd no_more) i);
}

-- the order of what is given does not matter
pub joined_permutation : (xs ys out : List Span) → IsPermutation xs ys → AreJoined ys out → AreJoined xs out
joined_permutation xs ys out p m = record {
  same = λ x. (
    (λ h. (m.same x).0 (any_permutation (IsIn x) xs ys p h)),
    (λ h. any_permutation (IsIn x) ys xs (IsPermutation-sym xs ys p) ((m.same x).1 h)),
  );
  apart = m.apart;
  some = m.some;
}

-- a list by its first element
pub split_is : (xs : List Span) (d : Span) → 0 < length xs → xs ≡ get_or xs 0 d ∷ take (length xs - 1) (drop 1 xs)
split_is [] d h = absurd (omega arith)
split_is (x ∷ xs) d h = ap (λ r. x ∷ r) (sym (take_rest (x ∷ xs) 1))
