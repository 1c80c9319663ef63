-- Ranges of the runs of a flat list that were passed.
use Rattle.std.proofs.Common.{rules, ◌≡◌, ℕ, ◌+◌, ◌^◌, ◌<◌, ◌≤◌, ◌⊎◌, inl, inr, ⊎_elim, List, [], map, Option, Some, None, length, length-append, refl, sym, ap, ◌∙◌, subst, arith}
use Rattle.std.proofs.lemmas.Bool.{cases_lt}
use Rattle.ipnet_addr.specs.Addresses.{Address, Family, rank, width}
use Rattle.ipnet_addr.proofs.Members.{In, In-cases, In-left, In-right}
use Rattle.ipnet_addr.proofs.Ascending.{Any-from_In, Contains-from_In, In-from_Any, Rising, Rising-from_pairs}
use Rattle.ipnet_blocks.specs.Blocks.{Block, HasAddress, first}
use Rattle.ipnet_blocks.proofs.Cuts.{has_of_span, span_of_has}
use Rattle.ipnet_blocks.proofs.Lists.{rising_cross}
use Rattle.route_choices.proofs.Kept.{In-map, map_In}
use Rattle.route_laws.specs.Flats.{Piece, IsFlat}
use Rattle.route_laws.proofs.Flats.{Sooner, piece_at, same_piece, tells}
use Rattle.route_laws.proofs.Matches.{before_apart}
use Rattle.route_table.proofs.Openings.{rising_back}
use Rattle.route_table.specs.Items.{BeginsWithRun, IsInRun, run_family, run_first, run_hop, run_last}
use Rattle.route_table.specs.declared.hop_run.HopRun.{HopRun}
use Rattle.hop_index.specs.Ranges.{HopRange, hop_in}
use Rattle.hop_index.specs.InnerRanges.{AreAscending, AreRangesOf, EndBelow}
use Rattle.hop_index.proofs.Searches.{below_later}

abbrev at : Family → ℕ → Address
at f n = record { family = f; number = n }

-- a number has its hop, or is in a piece that is left
abbrev IsPassed : (Address → Option ℕ) → Family → List HopRange → List Piece → ℕ → Type 0
IsPassed h f rs left n = (hop_in rs n ≡ h (at f n)) ⊎ ((p : Piece) × In p left × HasAddress p.block (at f n))

-- ranges have the hops of a family but for the pieces that are left, which come above them
pub record Walked (h : Address → Option ℕ) (ps : List Piece) (f : Family) (rs : List HopRange) (left : List Piece) : Type 0 where
  pub ascending : AreAscending rs
  pub within : EndBelow (2 ^ width f) rs
  pub members : (p : Piece) → In p left → In p ps
  pub rising : Rising Sooner left
  pub above : (p : Piece) → In p left → (n : ℕ) → HasAddress p.block (at f n) → EndBelow n rs
  pub hops : (n : ℕ) → n < 2 ^ width f → IsPassed h f rs left n

-- the next run
module _ (all left : List Piece) (run : HopRun) (is : BeginsWithRun all run left) where
  abbrev as_piece : Block → Piece
  as_piece b = record { block = b; number = run_hop run }

  abbrev pieces : List Piece
  pieces = map as_piece is.blocks

  -- a piece of the run has each of its addresses
  piece_of : (x : Address) → IsInRun run x → (b : Block) × In (as_piece b) pieces × HasAddress b x
  piece_of x i = let t = In-from_Any (λ b. HasAddress b x) is.blocks ((is.addresses x).1 i) in (t.0, map_In as_piece is.blocks t.0 t.1, t.2)

  -- fewer pieces are left
  pub fewer : length left < length all
  fewer =
      let t = piece_of (at (run_family run) (run_first run)) (refl, omega arith, is.some) in
      let some = (Contains-from_In pieces (as_piece t.0) t.1).1 in
      omega (arith, some, ap (λ (qs : List Piece). length qs) is.pieces, length-append pieces left)

  -- an address of a piece is in the run, or in a piece that is left
  run_or_left : (x : Address) (p : Piece) → In p all → HasAddress p.block x → IsInRun run x ⊎ ((q : Piece) × In q left × HasAddress q.block x)
  run_or_left x p i has = ⊎_elim
      (λ j. let t = In-map as_piece is.blocks p j in inl ((is.addresses x).0 (Any-from_In (λ b. HasAddress b x) is.blocks t.0 t.1 (subst (λ (q : Piece). HasAddress q.block x) t.2 has))))
      (λ j. inr (p, j, has))
      (In-cases p pieces left (subst (In p) is.pieces i))

module _ (h : Address → Option ℕ) (ps : List Piece) (flat : IsFlat h ps) where
  pub begin : (f : Family) → Walked h ps f [] ps
  begin f =
      let hops : (n : ℕ) → n < 2 ^ width f → IsPassed h f [] ps n = λ n l. by_hop n l (h (at f n)) refl in
      search (rules, hops, Rising-from_pairs Sooner ps flat.ascending)
    where
      by_hop : (n : ℕ) → n < 2 ^ width f → (o : Option ℕ) → h (at f n) ≡ o → IsPassed h f [] ps n
      by_hop n l None e = inl (sym e)
      by_hop n l (Some k) e = let t = piece_at h ps flat (at f n) l k e in inr (t.0, t.1, t.2)

  -- the numbers of a piece are below those of a later one
  sooner_below : (p q : Piece) → In p ps → In q ps → Sooner p q → (f : Family) (m n : ℕ) → HasAddress p.block (at f m) → HasAddress q.block (at f n) → m < n
  sooner_below p q i j l f m n a b =
      let s = span_of_has p.block (at f m) a in
      let t = span_of_has q.block (at f n) b in
      let ranks : rank p.block.family ≡ rank q.block.family = ap rank (sym a.0 ∙ b.0) in
      let up : first p.block ≤ first q.block = grind arith in
      ⊎_elim (λ less. less)
      (λ more. absurd (before_apart p.block q.block l (same_piece h ps flat p q i j (at f n) (has_of_span p.block (at f n) a.0 (omega arith) (omega arith)) b)))
      (cases_lt m n)

  module _ (all left : List Piece) (run : HopRun) (is : BeginsWithRun all run left) (rs : List HopRange) (f : Family) (w : Walked h ps f rs all) where
    left_rising : Rising Sooner left
    left_rising = rising_back Sooner (pieces all left run is) left (subst (Rising Sooner) is.pieces w.rising)

    left_in : (p : Piece) → In p left → In p all
    left_in p i = subst (In p) (sym is.pieces) (In-right p (pieces all left run is) left i)

    passed : (new : List HopRange) (n : ℕ) → n < 2 ^ width f → hop_in new n ≡ hop_in rs n → (IsInRun run (at f n) → ⊥) → IsPassed h f new left n
    passed new n l same not = ⊎_elim (λ e. inl (same ∙ e)) (λ t. ⊎_elim (λ i. absurd (not i)) (λ s. inr s) (run_or_left all left run is (at f n) t.0 t.1 t.2)) (w.hops n l)

    -- those of the other family stay
    pub walk_kept : (run_family run ≡ f → ⊥) → Walked h ps f rs left
    walk_kept other =
        let hops : (n : ℕ) → n < 2 ^ width f → IsPassed h f rs left n = λ n l. passed rs n l refl (λ i. other (sym i.0)) in
        search (rules, w.members, w.above, left_in, left_rising, hops)

    module _ (own : run_family run ≡ f) where
      here : (n : ℕ) → run_first run ≤ n → n ≤ run_last run → (b : Block) × In (as_piece all left run is b) (pieces all left run is) × HasAddress b (at f n)
      here n from to = piece_of all left run is (at f n) (sym own, from, to)

      own_in : (b : Block) → In (as_piece all left run is b) (pieces all left run is) → In (as_piece all left run is b) all
      own_in b i = subst (In _) (sym is.pieces) (In-left _ (pieces all left run is) left i)

      pub ends_before : EndBelow (run_first run) rs
      ends_before = let t = here (run_first run) (omega arith) is.some in w.above _ (own_in t.0 t.1) (run_first run) t.2

      pub walk_on : (new : List HopRange) → AreAscending new → EndBelow (run_last run + 1) new → EndBelow (2 ^ width f) new
          → ((n : ℕ) → run_first run ≤ n → n ≤ run_last run → hop_in new n ≡ Some (run_hop run))
          → ((n : ℕ) → (run_first run ≤ n → n ≤ run_last run → ⊥) → hop_in new n ≡ hop_in rs n) → Walked h ps f new left
      walk_on new up below within inside outside =
          let above : (p : Piece) → In p left → (n : ℕ) → HasAddress p.block (at f n) → EndBelow n new = λ p i n has.
          let t = here (run_last run) is.some (omega arith) in
          let sooner = rising_cross Sooner (pieces all left run is) left (subst (Rising Sooner) is.pieces w.rising) _ p t.1 i in
          let l = sooner_below _ p (w.members _ (own_in t.0 t.1)) (w.members p (left_in p i)) sooner f (run_last run) n t.2 has in
          below_later new (run_last run + 1) n (omega arith) below in
          let hops : (n : ℕ) → n < 2 ^ width f → IsPassed h f new left n = λ n l. ⊎_elim
          (λ less. other n l (λ from to. absurd (omega arith)))
          (λ from. ⊎_elim
          (λ more. other n l (λ also to. absurd (omega arith)))
          (λ to. let t = here n from to in inl (inside n from to ∙ sym (tells h ps flat _ (w.members _ (own_in t.0 t.1)) (at f n) t.2)))
          (cases_lt (run_last run) n))
          (cases_lt n (run_first run)) in
          search (rules, w.members, left_in, left_rising, above, hops)
        where
          other : (n : ℕ) → n < 2 ^ width f → (run_first run ≤ n → n ≤ run_last run → ⊥) → IsPassed h f new left n
          other n l not = passed new n l (outside n not) (λ i. not i.1 i.2)

pub done : (h : Address → Option ℕ) (ps : List Piece) → IsFlat h ps → (f : Family) (rs : List HopRange) (left : List Piece) → left ≡ []
    → ((k : Address → Option ℕ) → IsFlat k ps → Walked k ps f rs left) → AreRangesOf ps f rs
done h ps flat f rs left none walked = record {
  ascending = (walked h flat).ascending;
  within = (walked h flat).within;
  hops = λ k is n l. ⊎_elim (λ e. e) (λ t. absurd (subst (In t.0) none t.1)) ((walked k is).hops n l);
}
