-- No route outside a block needs a change if the addresses outside keep their hops.
use Rattle.std.proofs.Common.{◌≡◌, ℕ, suc, ◌+◌, ◌≤◌, Bool, true, false, List, [], ◌∷◌, length, Option, refl, sym, ◌∙◌, subst, arith, ⊎_elim, zero-add}
use Rattle.least_table.specs.Tables.{IsBitTable, GivesHops, half, half_of, hop_inheriting, own, passed}
use Rattle.least_table.specs.Wholes.{whole}
use Rattle.nearest_table.specs.Blocks.{put}
use Rattle.least_table.specs.Nearest.{IsNearestTable, distance}
use Rattle.nearest_table.specs.Laws.{LocalLaw}
use Rattle.least_table.proofs.Distances.{change, change_same, change_cases, distance-halves, distance-whole, turned}
use Rattle.least_table.proofs.Split.{GivesHops-half, GivesHops-whole, hop-half, IsBitTable-half}
use Rattle.least_table.proofs.Makes.{distance-self}

module _ (w : ℕ) (h : List Bool → Option ℕ) (s : Option ℕ) (t : List (List Bool × Option ℕ)) (table : IsBitTable (suc w) t) where
  abbrev pub p : Option ℕ
  p = passed s (own t)

  -- a half that keeps its hops
  stays : (b : Bool) → ((x : List Bool) → length x ≡ w → half_of b h x ≡ hop_inheriting s t (b ∷ x)) → GivesHops w (half_of b h) p (half t b)
  stays b same = record { table = IsBitTable-half w t b table; same = λ x l. sym (same x l ∙ hop-half s t b x) }

  -- a nearest table of the other half is no further than any table's
  pub no_further : (b : Bool) (u v : List (List Bool × Option ℕ)) → IsNearestTable w (half_of b h) p (half t b) u → GivesHops (suc w) h s v → distance (half t b) u ≤ change (own t) (own v) + distance (half t b) (half v b)
  no_further b u v n g = ⊎_elim at_same (λ e. omega (arith, e, at_other)) (change_cases (own t) (own v))
    where
      gives : GivesHops w (half_of b h) (passed s (own v)) (half v b)
      gives = GivesHops-half w h s v g b

      at_same : own t ≡ own v → distance (half t b) u ≤ change (own t) (own v) + distance (half t b) (half v b)
      at_same e = omega (arith, n.nearest (half v b) (subst (λ o. GivesHops w (half_of b h) (passed s o) (half v b)) (sym e) gives))

      at_other : distance (half t b) u ≤ distance (half t b) (half v b) + 1
      at_other = let y = turned w (half_of b h) (half t b) (IsBitTable-half w t b table) p (passed s (own v)) (half v b) gives in omega (arith, n.nearest y.0 y.1, y.2)

  pub low_half : (u : List (List Bool × Option ℕ)) → IsNearestTable w (half_of false h) p (half t false) u → ((x : List Bool) → length x ≡ w → half_of true h x ≡ hop_inheriting s t (true ∷ x)) → IsNearestTable (suc w) h s t (whole (own t) u (half t true))
  low_half u n same = record {
    gives = GivesHops-whole w h s (own t) u (half t true) n.gives (stays true same);
    nearest = λ v g. omega (arith, distance-whole (suc w) w t (own t) u (half t true) table n.gives.table (IsBitTable-half w t true table), change_same (own t), distance-self w (half t true) (IsBitTable-half w t true table), no_further false u v n g, distance-halves (suc w) (suc w) t v table g.table);
  }

  pub high_half : (u : List (List Bool × Option ℕ)) → IsNearestTable w (half_of true h) p (half t true) u → ((x : List Bool) → length x ≡ w → half_of false h x ≡ hop_inheriting s t (false ∷ x)) → IsNearestTable (suc w) h s t (whole (own t) (half t false) u)
  high_half u n same = record {
    gives = GivesHops-whole w h s (own t) (half t false) u (stays false same) n.gives;
    nearest = λ v g. omega (arith, distance-whole (suc w) w t (own t) (half t false) u table (IsBitTable-half w t false table) n.gives.table, change_same (own t), distance-self w (half t false) (IsBitTable-half w t false table), no_further true u v n g, distance-halves (suc w) (suc w) t v table g.table);
  }

one_more : (n v : ℕ) → suc (n + v) ≡ suc n + v
one_more n v = omega arith

pub local_law : LocalLaw
local_law [] v h s t u table same n = rw (zero-add) n
local_law (false ∷ ds) v h s t u table same n =
    let w = length ds + v in
    let less : IsBitTable (suc w) t = subst (λ i. IsBitTable i t) (sym (one_more (length ds) v)) table in
    let y = local_law ds v (half_of false h) (passed s (own t)) (half t false) u (IsBitTable-half w t false less) (λ x l e. same (false ∷ x) (omega (arith, l)) e ∙ hop-half s t false x) n in
    subst (λ i. IsNearestTable i h s t (put (false ∷ ds) t u)) (one_more (length ds) v) (low_half w h s t less (put ds (half t false) u) y (λ x l. same (true ∷ x) (omega (arith, l)) refl))
local_law (true ∷ ds) v h s t u table same n =
    let w = length ds + v in
    let less : IsBitTable (suc w) t = subst (λ i. IsBitTable i t) (sym (one_more (length ds) v)) table in
    let y = local_law ds v (half_of true h) (passed s (own t)) (half t true) u (IsBitTable-half w t true less) (λ x l e. same (true ∷ x) (omega (arith, l)) e ∙ hop-half s t true x) n in
    subst (λ i. IsNearestTable i h s t (put (true ∷ ds) t u)) (one_more (length ds) v) (high_half w h s t less (put ds (half t true) u) y (λ x l. same (false ∷ x) (omega (arith, l)) refl))
