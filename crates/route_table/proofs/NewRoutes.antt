-- The routes of a family that a table of bit strings stands for: those of the installed table where it has them, and new ones elsewhere.
use Rattle.std.proofs.Common.{◌≡◌, ℕ, ⊎_elim, inl, inr, Bool, true, false, cond, not, ◌||◌, List, [], ◌∷◌, filter, map, All, Option, refl, sym, ap, ◌∙◌, subst}
use Rattle.std.proofs.lemmas.Bool.{and_parts, cases_Bool, cond_both, false_from_ne_true}
use Rattle.ipnet_addr.specs.Addresses.{Family, width}
use Rattle.ipnet_addr.proofs.Basics.{list_any-from_In}
use Rattle.ipnet_addr.proofs.Members.{In}
use Rattle.ipnet_addr.proofs.Ascending.{In-from_All}
use Rattle.ipnet_blocks.specs.Blocks.{Block, bit_string, family_block, is_inside}
use Rattle.least_table.specs.Orders.{IsInOrder}
use Rattle.least_table.specs.Tables as bits
use Rattle.least_table.proofs.Sets.{same_hop-true}
use Rattle.nearest_table.specs.Edits.{AreEdits, blocks, installed_in}
use Rattle.least_table.specs.Nearest as near
use Rattle.route_choices.specs.Hops.{IsHop, number_of}
use Rattle.route_choices.proofs.Kept.{In-filter, In-from_filter, In-map, filter_map_swap, map_In, same_kept, map_same}
use Rattle.route_laws.specs.Operations.{Operation, Remove, is_held, removes, same_route}
use Rattle.route_laws.specs.Tables.{Route, IsTable}
use Rattle.route_laws.proofs.Between.{route_itself}
use Rattle.route_laws.proofs.Insides.{number_from_hop, Sound, sound, table_of}
use Rattle.route_laws.proofs.Matches.{not_cases}
use Rattle.route_table.specs.InnerLeast.{entry_of, entries_of}
use Rattle.route_table.specs.InnerFamilyTables.{block_at}
use Rattle.route_table.specs.InnerUpdates.{installed_route, routes_in}
use Rattle.route_table.proofs.FamilyBits.{AllOf, Blocks, lengths, rising_entries}
use Rattle.route_table.proofs.PartBits.{bits_of, held_bits, part, part_all, same_entry}
use Rattle.route_table.proofs.Strings.{block_at_is_block, block_of_string, string-true, string_of_block}

-- maps that agree on the members
module _ (f : Family) where
  -- the route of L with this entry, or a new one
  abbrev kept : List Route → List Bool × Option ℕ → Route
  kept [] e = installed_route f e
  kept (r ∷ L) e = cond (same_entry (entry_of r) e) r (kept L e)

  entry_path : (d e : List Bool × Option ℕ) → d.0 ≡ e.0 → d.1 ≡ e.1 → d ≡ e
  entry_path d e p q = λ i. (p i, q i)

  kept_entry : (L : List Route) (e : List Bool × Option ℕ) → entry_of (kept L e) ≡ e
  kept_entry [] e = entry_path (entry_of (installed_route f e)) e (string_of_block f e.0) (number_from_hop e.1)
  kept_entry (r ∷ L) e = cond_both (same_entry (entry_of r) e) r (kept L e) (λ (q : Route). entry_of q ≡ e)
      (λ t. let p = and_parts _ _ t in
      entry_path (entry_of r) e (string-true (bit_string r.block) e.0 p.0) (same_hop-true (number_of r.hop) e.1 p.1))
      (λ t. kept_entry L e)

  kept_held : (L : List Route) (e : List Bool × Option ℕ) → near.has (entries_of L) e ≡ true → In (kept L e) L
  kept_held [] e h = absurd (cc)
  kept_held (r ∷ L) e h = cond_both (same_entry (entry_of r) e) r (kept L e) (λ (q : Route). In q (r ∷ L))
      (λ t. inl refl)
      (λ t. inr (kept_held L e (ap (λ b. b || near.has (entries_of L) e) (sym t) ∙ h)))

  kept_new : (L : List Route) (e : List Bool × Option ℕ) → near.has (entries_of L) e ≡ false → kept L e ≡ installed_route f e
  kept_new [] e h = refl
  kept_new (r ∷ L) e h = cond_both (same_entry (entry_of r) e) r (kept L e) (λ (q : Route). q ≡ installed_route f e)
      (λ t. absurd (let z = ap (λ b. b || near.has (entries_of L) e) (sym t) ∙ h in cc))
      (λ t. kept_new L e (ap (λ b. b || near.has (entries_of L) e) (sym t) ∙ h))

  -- the blocks of routes that are taken out
  pub removed_blocks : (K : List Route) → Blocks f K → map Remove (map (block_at f) (blocks (entries_of K))) ≡ removes K
  removed_blocks [] k = refl
  removed_blocks (r ∷ K) k =
      let t = k r (inl refl) in
      let e : block_at f (bit_string r.block) ≡ r.block = ap (λ g. block_at g (bit_string r.block)) (sym t.1)
      ∙ block_of_string r.block t.0 in
      ap (λ (c : Block). Remove c ∷ map Remove (map (block_at f) (blocks (entries_of K)))) e
      ∙ ap (λ (os : List Operation). Remove r.block ∷ os) (removed_blocks K (λ s i. k s (inr i)))

  module _ (M : List Route) (table : IsTable M) (u : List (List Bool × Option ℕ)) (es : List (List Bool × Option (Option ℕ)))
      (edits : AreEdits (bits_of f M) u es) where
    -- the new routes of the family
    abbrev pub new_routes : List Route
    new_routes = map (kept (part f M)) u

    pub new_entries : entries_of new_routes ≡ u
    new_entries = go u
      where
        go : (v : List (List Bool × Option ℕ)) → entries_of (map (kept (part f M)) v) ≡ v
        go [] = refl
        go (e ∷ v) = ap (λ (d : List Bool × Option ℕ). d ∷ entries_of (map (kept (part f M)) v)) (kept_entry (part f M) e)
            ∙ ap (λ (ds : List (List Bool × Option ℕ)). e ∷ ds) (go v)

    held_same : (e : List Bool × Option ℕ) → near.has (bits_of f M) e ≡ is_held M (kept (part f M) e)
    held_same e = ⊎_elim
        (λ t. t ∙ sym
        (list_any-from_In (λ s. same_route s (kept (part f M) e)) M (kept (part f M) e)
        (In-from_filter (λ q. is_inside q.block (family_block f)) M (kept (part f M) e) (kept_held (part f M) e t)).0
        (route_itself (kept (part f M) e))))
        (λ n. n ∙ sym (false_from_ne_true (is_held M (kept (part f M) e)) (λ t.
        let b : near.has (bits_of f M) e ≡ true = ap (near.has (bits_of f M)) (sym (kept_entry (part f M) e))
        ∙ held_bits f M table (kept (part f M) e) (ap (λ (r : Route). r.block.family) (kept_new (part f M) e n)) t in cc)))
        (cases_Bool (near.has (bits_of f M) e))

    -- those that M lacks are the installed ones
    pub new_missing : filter (λ r. not (is_held M r)) new_routes ≡ routes_in f es
    new_missing = filter_map_swap (kept (part f M)) (λ r. not (is_held M r)) u
        ∙ ap (map (kept (part f M)))
        (same_kept (λ e. not (is_held M (kept (part f M) e))) (λ e. not (near.has (bits_of f M) e)) u
        (λ e i. ap not (sym (held_same e))))
        ∙ map_same (kept (part f M)) (installed_route f) (near.missing_routes (bits_of f M) u)
        (λ e i. kept_new (part f M) e (false_from_ne_true (near.has (bits_of f M) e)
        (not_cases (near.has (bits_of f M) e) (In-from_filter (λ d. not (near.has (bits_of f M) d)) u e i).1)))
        ∙ ap (map (installed_route f)) (sym edits.installs)

    module _ (ok : bits.IsBitTable (width f) u) (order : IsInOrder u) (hops : All (λ r. IsHop r.hop) (routes_in f es)) where
      new_sound : (e : List Bool × Option ℕ) → In e u → Sound (kept (part f M) e) × ((kept (part f M) e).block.family ≡ f)
      new_sound e i = ⊎_elim
          (λ t. let j = kept_held (part f M) e t in (
            sound M table (kept (part f M) e)
                (In-from_filter (λ q. is_inside q.block (family_block f)) M (kept (part f M) e) j).0,
            part_all f M (kept (part f M) e) j,
          ))
          (λ n. subst (λ (r : Route). Sound r × (r.block.family ≡ f)) (sym (kept_new (part f M) e n)) (
            (
              block_at_is_block f e.0 (lengths (width f) u ok e i),
              In-from_All (λ (r : Route). IsHop r.hop) (routes_in f es) hops (installed_route f e)
                  (map_In (installed_route f) (installed_in es) e
                  (subst (λ (t : List (List Bool × Option ℕ)). In e t) (sym edits.installs)
                  (In-filter (λ d. not (near.has (bits_of f M) d)) u e i (ap not n)))),
            ),
            refl,
          ))
          (cases_Bool (near.has (bits_of f M) e))

      all_sound : (r : Route) → In r new_routes → Sound r × (r.block.family ≡ f)
      all_sound r i = let t = In-map (kept (part f M)) u r i in
          subst (λ (s : Route). Sound s × (s.block.family ≡ f)) (sym t.2) (new_sound t.0 t.1)

      pub new_all : AllOf f new_routes
      new_all r i = (all_sound r i).1

      pub new_is_table : IsTable new_routes
      new_is_table = table_of new_routes (λ r i. (all_sound r i).0)
          (rising_entries f new_routes (λ r i. ((all_sound r i).0.0, (all_sound r i).1)) (subst IsInOrder (sym new_entries) order))
