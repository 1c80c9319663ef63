-- The hops of a table are numbers that a route can have. Tables made of flat lists have their hops.
use Rattle.std.proofs.Common.{◌≡◌, ℕ, ◌<◌, ◌^◌, Option, Some, None, IfSome, refl, subst, ⊎_elim, true, false, nat_lt, cond, List, [], ◌∷◌, ◌++◌, map, sym, ap, ◌∙◌, option_map, arith, inl}
use Rattle.std.proofs.lemmas.Option.{none-some}
use Rattle.ipnet_addr.proofs.Ascending.{In-from_All, In-from_Contains, Contains-from_In, Rising-from_pairs, Rising}
use Rattle.ipnet_addr.proofs.Members.{In}
use Rattle.ipnet_blocks.specs.Blocks.{host, Block, IsBefore, is_inside, HasAddress, first_of}
use Rattle.ipnet_blocks.proofs.Maximals.{host_is_block, in_host, has_host, member_is_address}
use Rattle.route_choices.specs.Hops.{IsHop, number_of}
use Rattle.route_choices.specs.declared.hop.Hop.TheVariants.{Number, Drop}
use Rattle.route_laws.specs.Fewest.{HopsOfTable, AreHops}
use Rattle.route_laws.specs.Tables.{IsMatch, Route, match_of, match_number, IsTable, covering, hop_at, longer, longest, with_route}
use Rattle.route_laws.proofs.Matches.{match_meets, match_from, none_from, none_or_some, before_apart, put_last, Rising-map, each_last}
use Rattle.ipnet_addr.specs.Addresses.{Address, IsAddress}
use Rattle.route_choices.specs.Choices.{Choice, choices_with, default_preference}
use Rattle.route_choices.proofs.Kept.{In-map, filter_map_swap, map_In}
use Rattle.route_laws.specs.Networks.{Stored, choices_at, with_choice, with_choices, IsStoredTable, routes_of}
use Rattle.route_laws.proofs.Insides.{Sound, rising, sound, table_of}
use Rattle.route_laws.proofs.Networks.{at_cases, Earlier, IsGood, stored_table_of}
use Rattle.ipnet_blocks.proofs.BlockLaws.{has_first}
use Rattle.route_laws.specs.Changes.{route_for, with_pieces, with_each}
use Rattle.route_laws.specs.Flats.{Piece, IsFlat}
use Rattle.route_laws.specs.Laws.{FlatRebuilds, FlatReadded, ReaddedAreNew}
use Rattle.route_laws.proofs.Flats.{Sooner, piece_at, piece_is_maximal, same_piece, tells, flat_moved}
use Rattle.ipnet_blocks.proofs.Lists.{rising_cross, rising_front}
use Rattle.route_choices.proofs.ChoiceLists.{one_is}
use Rattle.route_laws.specs.LeastTables.{HasHops}
use Rattle.route_laws.proofs.Insides as routes

abbrev Small : Option ℕ → Type 0
Small o = IfSome o (λ k. k < 2 ^ 32)

pub hops_of_table : HopsOfTable
hops_of_table M table x a = ⊎_elim
    (λ e. rw e tt)
    (λ t.
    let member = (match_meets M table (host x) (host_is_block x a) t.0 t.1).member in
    rw t.1 ((elim t.0.hop as (λ k. IsHop k → Small (number_of k)) [ Number k ↦ λ h. h | Drop ↦ λ h. tt ])
    (In-from_All (λ (s : Route). IsHop s.hop) M table.hops t.0 (In-from_Contains M t.0 member))))
    (none_or_some (match_of M (host x)))

-- ---- networks added one after another, ascending; and hops, which do not depend on preferences

-- a network that comes after all stored ones
module _ (T : List Stored) (b : Block) (after : (s : Stored) → In s T → IsBefore s.block b) where
  pub none_at : choices_at T b ≡ []
  none_at = ⊎_elim (λ t. absurd (before_apart t.0.block b (after t.0 t.1) t.2)) (λ t. t.1) (at_cases T b)

  -- stands last once it is added
  pub added_last : (c : Choice) → with_choice T b c ≡ T ++ record { block = b; choices = c ∷ [] } ∷ []
  added_last c = ap (λ cs. with_choices T b (choices_with cs c)) none_at ∙ put_last Stored.block T (record { block = b; choices = c ∷ [] }) after

-- routes with one preference
module _ (pref : ℕ) where
  abbrev pub preferring : Route → Route
  preferring r = record { block = r.block; hop = r.hop; pref = pref }

  longer_same : (r : Route) (o : Option Route) → Some (longer (preferring r) (option_map preferring o)) ≡ option_map preferring (Some (longer r o))
  longer_same r None = refl
  longer_same r (Some s) =
      elim (nat_lt r.block.len s.block.len) as (λ b. Some (cond b (preferring s) (preferring r)) ≡ Some (preferring (cond b s r)))
      [ true ↦ refl | false ↦ refl ]

  longest_same : (rs : List Route) → longest (map preferring rs) ≡ option_map preferring (longest rs)
  longest_same [] = refl
  longest_same (r ∷ rs) = ap (λ o. Some (longer (preferring r) o)) (longest_same rs) ∙ longer_same r (longest rs)

  pub hops_same : (M : List Route) (x : Address) → hop_at (map preferring M) x ≡ hop_at M x
  hops_same M x =
      ap (λ rs. match_number (longest rs)) (filter_map_swap preferring (λ r. is_inside (host x) r.block) M)
      ∙ ap match_number (longest_same (covering M (host x)))
      ∙ (elim (longest (covering M (host x))) as (λ o. match_number (option_map preferring o) ≡ match_number o)
      [ None ↦ refl | Some r ↦ refl ])

  pub preferring_table : (M : List Route) → IsTable M → IsTable (map preferring M)
  preferring_table M table = table_of (map preferring M)
      (λ r i. let t = In-map preferring M r i in subst Sound (sym t.2) (sound M table t.0 t.1))
      (Rising-map routes.Sooner routes.Sooner preferring (λ r s l. l) M (rising M table))

-- ---- the pieces of a flat list as routes are a table with its hops

module _ (h : Address → Option ℕ) (ps : List Piece) (small : AreHops h) (flat : IsFlat h ps) where
  pub piece_sound : (p : Piece) → In p ps → Sound (route_for p)
  piece_sound p i =
      let w = (piece_is_maximal h ps flat p i).within in
      let x = first_of p.block in
      (w.block, subst (λ o. IfSome o (λ k. k < 2 ^ 32)) (w.all x (has_first p.block)) (small x (member_is_address p.block x w.block (has_first p.block))))

  abbrev N : List Route
  N = map route_for ps

  is_table : IsTable N
  is_table = table_of N (λ r i. let t = In-map route_for ps r i in subst Sound (sym t.2) (piece_sound t.0 t.1)) (Rising-map Sooner routes.Sooner route_for (λ p q l. l) ps (Rising-from_pairs Sooner ps flat.ascending))

  -- the one route that contains an address is that of its piece
  matched : (x : Address) (p : Piece) → In p ps → HasAddress p.block x → IsMatch N (host x) (route_for p)
  matched x p i a = record {
    member = Contains-from_In N (route_for p) (map_In route_for ps p i);
    holds = λ y n. subst (λ (z : Address). HasAddress p.block z) (sym (in_host x y n)) a;
    longest = λ s c inside.
        let t = In-map route_for ps s (In-from_Contains N s c) in
        let b = subst (λ (r : Route). HasAddress r.block x) t.2 (inside x (has_host x)) in
        let l = ap (λ (c : Block). c.len) (same_piece h ps flat p t.0 i t.1 x a b) in
        let r = ap (λ (r : Route). r.block.len) t.2 in
        omega arith;
  }

  pub flat_is_table : HasHops h N
  flat_is_table = record {
    table = is_table;
    same = λ x a. ⊎_elim
        (λ e. ap match_number (none_from N is_table (host x) (host_is_block x a) (λ r i l.
        let t = In-map route_for ps r i in
        let z = tells h ps flat t.0 t.1 x (subst (λ (s : Route). HasAddress s.block x) t.2 (l x (has_host x))) in
        none-some t.0.number (sym e ∙ z))) ∙ sym e)
        (λ s.
        let t = piece_at h ps flat x a s.0 s.1 in
        ap match_number (match_from N is_table (host x) (host_is_block x a) (route_for t.0) (matched x t.0 t.1 t.2)) ∙ ap (λ (n : ℕ). Some n) t.3 ∙ sym s.1)
        (none_or_some (h x));
  }

-- ---- a table made of the pieces of a flat list has the same hops; so has a table of networks

pub flat_rebuilds : FlatRebuilds
flat_rebuilds M ps table flat =
    let e = each_last Route.block route_for (λ M p. with_route M (route_for p)) with_pieces (λ M. refl) (λ M p ps. refl) (λ M p. put_last Route.block M (route_for p)) ps [] (Rising-from_pairs Sooner ps flat.ascending) (λ p j r i. absurd i) in
    let t = flat_is_table (hop_at M) ps (hops_of_table M table) flat in
    let same : (x : Address) → IsAddress x → hop_at (with_pieces [] ps) x ≡ hop_at M x = λ x a. ap (λ N. hop_at N x) e ∙ t.same x a in
    (subst IsTable (sym e) t.table, same, flat_moved (hop_at (with_pieces [] ps)) (hop_at M) same ps flat)

-- ---- a table of networks

abbrev choice_for : Piece → Choice
choice_for p = record { hop = Number p.number; pref = default_preference }

-- a piece as a network with one route
abbrev stored_for : Piece → Stored
stored_for p = record { block = p.block; choices = choice_for p ∷ [] }

-- ascending pieces are added one after the other
added : (ps : List Piece) → Rising Sooner ps → with_each [] ps ≡ map stored_for ps
added ps up = each_last Stored.block stored_for (λ T p. with_choice T p.block (choice_for p)) with_each (λ T. refl) (λ T p ps. refl) (λ T p after. added_last T p.block after (choice_for p)) ps [] up (λ p j s i. absurd i)

-- their best routes are the pieces
best_are : (ps : List Piece) → routes_of (map stored_for ps) ≡ map route_for ps
best_are [] = refl
best_are (p ∷ ps) = ap (λ rs. route_for p ∷ rs) (best_are ps)

pub flat_readded : FlatReadded
flat_readded h ps small flat =
    let up = Rising-from_pairs Sooner ps flat.ascending in
    let e = added ps up in
    let t = subst (HasHops h) (sym (ap routes_of e ∙ best_are ps)) (flat_is_table h ps small flat) in
    let stored = stored_table_of (map stored_for ps)
    (λ s i. let t = In-map stored_for ps s i in let k = piece_sound h ps small flat t.0 t.1 in subst IsGood (sym t.2) (k.0, (λ e. cc), one_is (choice_for t.0) k.1 (omega arith)))
    (Rising-map Sooner Earlier stored_for (λ p q l. l) ps up) in
    (subst IsStoredTable (sym e) stored, ap routes_of e ∙ best_are ps, t, flat_moved (hop_at (routes_of (with_each [] ps))) h t.same ps flat)

-- each piece comes after those before it
pub readded_are_new : ReaddedAreNew
readded_are_new h front back p flat =
    let up = Rising-from_pairs Sooner (front ++ p ∷ back) flat.ascending in
    ap (λ T. choices_at T p.block) (added front (rising_front Sooner front (p ∷ back) up))
    ∙ none_at (map stored_for front) p.block (λ s i. let t = In-map stored_for front s i in subst (λ (u : Stored). IsBefore u.block p.block) (sym t.2) (rising_cross Sooner front (p ∷ back) up t.0 p t.1 (inl refl)))
