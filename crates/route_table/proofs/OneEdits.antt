-- The edits of both families for one change.
use Rattle.std.proofs.Common.{◌≡◌, Bool, List, [], ◌∷◌, Option, ℕ, inl, inr, refl, sym, ap, ◌∙◌}
use Rattle.std.proofs.lemmas.Bool.{cond-true}
use Rattle.std.proofs.lemmas.List.Elements.{All-cons, All-nil}
use Rattle.ipnet_addr.specs.Addresses.{Family, width}
use Rattle.ipnet_addr.proofs.Members.{In}
use Rattle.ipnet_addr.proofs.Ascending.{pairs_from_Rising}
use Rattle.ipnet_blocks.specs.Blocks.{IsBlock, family_block, is_inside}
use Rattle.nearest_table.specs.Changed.{MakeNearest}
use Rattle.nearest_table.proofs.Puts.{made_none}
use Rattle.route_choices.specs.Hops.{IsHop}
use Rattle.route_choices.proofs.Kept.{In-from_filter}
use Rattle.route_laws.specs.Networks.{Stored, routes_of}
use Rattle.route_laws.specs.Painted.{AreChanges}
use Rattle.route_laws.specs.Tables.{IsTable, Route}
use Rattle.route_laws.proofs.Insides.{Sooner}
use Rattle.route_laws.proofs.Matches.{no_members}
use Rattle.route_table.specs.InnerFamilyTables.{IsFamilyTable}
use Rattle.route_table.specs.InnerLeast.{entries_of}
use Rattle.route_table.specs.InnerUpdates.{AreEditsOf, AreWithin}
use Rattle.route_table.proofs.FewestUpdates.{side_bits}
use Rattle.route_table.proofs.PartBits.{part, part_In, part_all}
use Rattle.route_table.proofs.Updating.{edits_within}

module _ (r : Route) (block : IsBlock r.block) (hop : IsHop r.hop) where
  pub changes : AreChanges (r ∷ [])
  changes = record { blocks = All-cons (λ q. IsBlock q.block) r [] block (All-nil (λ q. IsBlock q.block)); hops = All-cons (λ q. IsHop q.hop) r [] hop (All-nil (λ q. IsHop q.hop)) }

  table : IsTable (r ∷ [])
  table = record { blocks = changes.blocks; hops = changes.hops; ascending = pairs_from_Rising Sooner (r ∷ []) ((λ s i. absurd i), tt) }

  -- the edits of its family
  pub edits_here : (f : Family) (M T : List Route) (es : List (List Bool × Option (Option ℕ))) → r.block.family ≡ f → part f M ≡ T → MakeNearest (width f) (entries_of (r ∷ [])) (entries_of T) es → AreWithin (width f) es → AreEditsOf f (r ∷ []) M es
  edits_here f M T es e is made within =
      let here : part f (r ∷ []) ≡ r ∷ [] = cond-true _ (r ∷ []) [] (In-from_filter (λ q. is_inside q.block (family_block f)) (r ∷ []) r (part_In f (r ∷ []) table r (inl refl) e)).1 in
      record { made = rw (here, is) made; within = within }

  -- and of the other one
  pub edits_there : (f : Family) (M : List Route) (T : List Stored) (es : List (List Bool × Option (Option ℕ))) → (r.block.family ≡ f → ⊥) → part f M ≡ routes_of T → IsFamilyTable f T → es ≡ [] → AreEditsOf f (r ∷ []) M es
  edits_there f M T es other is side none =
      let none_here : part f (r ∷ []) ≡ [] = no_members (part f (r ∷ [])) (λ s i. other (here s (In-from_filter (λ q. is_inside q.block (family_block f)) (r ∷ []) s i).0 (part_all f (r ∷ []) s i))) in
      let bits = side_bits f T side in
      let made = made_none (width f) (entries_of (routes_of T)) bits.0 bits.1 in
      record { made = rw (none_here, is, none) made; within = rw none (edits_within (width f) [] (entries_of (routes_of T)) [] bits.0 made) }
    where
      here : (s : Route) → In s (r ∷ []) → s.block.family ≡ f → r.block.family ≡ f
      here s (inl e) k = ap (λ (q : Route). q.block.family) (sym e) ∙ k
      here s (inr i) k = absurd i
