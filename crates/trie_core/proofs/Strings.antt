-- Bit strings: when two are equal, which is the first, and what a beginning is.
use Rattle.std.proofs.Common.{◌≡◌, ◌≤◌, Bool, true, false, List, [], ◌∷◌, ◌++◌, length, take, drop, refl, ap, subst, Decides, take-append-drop, length-take, arith}
use Rattle.std.specs.Ordering.{bool_cmp, eq_by_cmp, is_eq}
use Rattle.std.specs.Cmp.{IsTotalOrder, bool_cmp_total, Equal-is}
use Rattle.std.specs.Cmp.Lexicographic.{lists_total}
use Rattle.std.specs.FinMap.{IsAntisymmetric, slice_cmp-IsAntisymmetric}
use Rattle.std.proofs.lemmas.Bool.{false_from_ne_true, both_ways}
use Rattle.ipnet_blocks.specs.BitStrings.{bits_cmp}
use Rattle.std.proofs.lemmas.Cmp.{tied_itself}

-- ---- equal bit strings

bool_same : IsAntisymmetric bool_cmp
bool_same x y e = grind arith

pub bits_total : IsTotalOrder bits_cmp
bits_total = lists_total bool_cmp_total

pub bits_same : IsAntisymmetric bits_cmp
bits_same = slice_cmp-IsAntisymmetric bool_same

abbrev pub same : List Bool → List Bool → Bool
same xs ys = eq_by_cmp bits_cmp xs ys

pub same-refl : (xs : List Bool) → same xs xs ≡ true
same-refl xs = ap is_eq (tied_itself bits_total xs)

pub same-Decides : (xs ys : List Bool) → Decides (same xs ys) (xs ≡ ys)
same-Decides xs ys = (λ e. bits_same xs ys ((Equal-is (bits_cmp xs ys)).0 e), λ e. subst (λ zs. same xs zs ≡ true) e (same-refl xs))

pub same_false : (xs ys : List Bool) → (xs ≡ ys → ⊥) → same xs ys ≡ false
same_false xs ys f = false_from_ne_true _ (λ e. f ((same-Decides xs ys).0 e))

pub not_same : {xs ys : List Bool} → same xs ys ≡ false → xs ≡ ys → ⊥
not_same {xs} {ys} e f = both_ways _ e ((same-Decides xs ys).1 f)

pub bits_cmp-under : (bs xs ys : List Bool) → bits_cmp (bs ++ xs) (bs ++ ys) ≡ bits_cmp xs ys
bits_cmp-under [] xs ys = refl
bits_cmp-under (b ∷ bs) xs ys = grind (arith, bits_cmp-under bs xs ys)

pub same-under : (bs xs ys : List Bool) → same (bs ++ xs) (bs ++ ys) ≡ same xs ys
same-under bs xs ys = ap is_eq (bits_cmp-under bs xs ys)

pub other_length : (x q : List Bool) → (length x ≡ length q → ⊥) → same x q ≡ false
other_length x q f = same_false x q (λ e. f (ap length e))

pub front : (q : List Bool) → 5 ≤ length q → (length (take 5 q) ≡ 5) × (take 5 q ++ drop 5 q ≡ q)
front q h = (omega (arith, length-take 5 q), take-append-drop 5 q)
