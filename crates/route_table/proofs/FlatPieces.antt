-- The flat list of each family as disjoint bit strings with hops.
use Rattle.std.proofs.Common.{◌≡◌, ℕ, ◌⊎◌, inl, inr, ⊎_elim, Bool, true, false, List, [], ◌∷◌, ◌++◌, length, filter, Option, Some, None, refl, sym, ap, ◌∙◌, subst, append-nil, append_assoc, Less}
use Rattle.std.proofs.lemmas.Bool.{both_ways, cases_Bool, cond-true, cond-false, false_from_ne_true}
use Rattle.ipnet_addr.specs.Addresses.{Family, Address, IsAddress, width, same_family}
use Rattle.ipnet_addr.proofs.Families.{family_from_test, test_from_family}
use Rattle.ipnet_addr.proofs.Members.{In}
use Rattle.ipnet_addr.proofs.Ascending.{Rising, Rising-from_pairs, pairs_from_Rising}
use Rattle.ipnet_blocks.specs.BitStrings.{begins, bits_cmp}
use Rattle.ipnet_blocks.specs.Blocks.{Block, IsBlock, HasAddress, bit_string, digits, host}
use Rattle.ipnet_blocks.proofs.Maximals.{host_is_block, has_host, in_host}
use Rattle.ipnet_blocks.proofs.Order.{order_of_strings}
use Rattle.ipnet_blocks.proofs.Strings.{begins_from_inside, inside_from_begins}
use Rattle.ipnet_blocks.specs.Networks.{Network}
use Rattle.ipnet_blocks.proofs.Lists.{rising_front}
use Rattle.ipnet.specs.IpNets.{block}
use Rattle.ipnet.specs.declared.ip_net.IpNet.{IpNet}
use Rattle.least_table.specs.Pieces.{AreDisjoint, piece_hop}
use Rattle.least_table.specs.declared.planner.Planner.{Planner}
use Rattle.trie_core.specs.Bits.{number_from}
use Rattle.trie_core.proofs.Longer.{own_digits}
use Rattle.trie_core.proofs.Numbers.{number_bound}
use Rattle.route_choices.proofs.Kept.{In-map, map_In, Rising-kept, In-from_filter, In-filter}
use Rattle.route_laws.specs.Flats.{Piece, IsFlat}
use Rattle.route_table.specs.InnerLeast.{ArePieces, IsPlanned, address_at, pieces_of}
use Rattle.route_laws.proofs.Flats.{Sooner, not_inside, piece_at, piece_is_block, tells}
use Rattle.route_laws.proofs.Matches.{before_apart}
use Rattle.route_table.proofs.Openings.{Rising-map}

-- whether a piece begins a string, and the first such piece
found : (qs : List (List Bool × ℕ)) (s : List Bool) → ((piece_hop qs s ≡ None) × ((q : List Bool × ℕ) → In q qs → begins q.0 s ≡ true → ⊥)) ⊎ ((q : List Bool × ℕ) × In q qs × (begins q.0 s ≡ true) × (piece_hop qs s ≡ Some q.1))
found [] s = inl (refl, λ q i e. i)
found (p ∷ qs) s = ⊎_elim
    (λ e. inr (p, inl refl, e, cond-true (begins p.0 s) (Some p.1) (piece_hop qs s) e))
    (λ e. ⊎_elim
    (λ n. inl (cond-false (begins p.0 s) (Some p.1) (piece_hop qs s) e ∙ n.0, λ q i t. ⊎_elim (λ z. both_ways (begins p.0 s) e (subst (λ (r : List Bool × ℕ). begins r.0 s ≡ true) z t)) (λ j. n.1 q j t) i))
    (λ m. inr (m.0, inr m.1, m.2, cond-false (begins p.0 s) (Some p.1) (piece_hop qs s) e ∙ m.3))
    (found qs s))
    (cases_Bool (begins p.0 s))

abbrev pub entry : Piece → List Bool × ℕ
entry p = (bit_string p.block, p.number)

abbrev in_family : Family → Piece → Bool
in_family f p = same_family p.block.family f

-- an address is its bits
pub bits_at : (f : Family) (s : List Bool) → length s ≡ width f → bit_string (host (address_at f s)) ≡ s
bits_at f s e = ap (λ n. digits n (number_from n s)) (sym e) ∙ own_digits s

-- a block holds an address where its bits begin the address
pub begins_host : (b : Block) (x : Address) → IsBlock b → IsAddress x → b.family ≡ x.family → HasAddress b x → begins (bit_string b) (bit_string (host x)) ≡ true
begins_host b x p a e h = begins_from_inside (host x) b (host_is_block x a) p (λ y m. subst (λ (z : Address). HasAddress b z) (sym (in_host x y m)) h)

pub has_begun : (b : Block) (x : Address) → IsBlock b → IsAddress x → b.family ≡ x.family → begins (bit_string b) (bit_string (host x)) ≡ true → HasAddress b x
has_begun b x p a e t = inside_from_begins (host x) b (host_is_block x a) p (sym e) t x (has_host x)

abbrev Apart : List Bool × ℕ → List Bool × ℕ → Type 0
Apart p q = (bits_cmp p.0 q.0 ≡ Less) × (begins p.0 q.0 ≡ false)

module _ (h : Address → Option ℕ) (ps : List Piece) (flat : IsFlat h ps) where
  module _ (f : Family) where
    apart : (p q : Piece) → In p (filter (in_family f) ps) → In q (filter (in_family f) ps) → Sooner p q → Apart (entry p) (entry q)
    apart p q i j l =
        let a = In-from_filter (in_family f) ps p i in
        let b = In-from_filter (in_family f) ps q j in
        let g : p.block.family ≡ q.block.family = family_from_test p.block.family f a.1 ∙ sym (family_from_test q.block.family f b.1) in
        let okp = piece_is_block h ps flat p a.0 in
        let okq = piece_is_block h ps flat q b.0 in (
          (order_of_strings p.block q.block okp okq g).0 l,
          false_from_ne_true (begins (bit_string p.block) (bit_string q.block)) (λ t. not_inside h ps flat p q a.0 b.0 (λ e. before_apart p.block q.block l (sym e)) (inside_from_begins q.block p.block okq okp (sym g) t)),
        )

    rising : Rising Apart (pieces_of f ps)
    rising = Rising-map Sooner Apart entry (filter (in_family f) ps) apart (Rising-kept Sooner (in_family f) ps (Rising-from_pairs Sooner ps flat.ascending))

    -- the hop of an address is the one of the piece that holds it
    module _ (x : Address) (a : IsAddress x) (e : x.family ≡ f) where
      told : piece_hop (pieces_of f ps) (bit_string (host x)) ≡ h x
      told = ⊎_elim (λ n. n.0 ∙ sym (none (h x) refl n.1)) (λ w. w.3 ∙ sym (some w.0 w.1 w.2)) (found (pieces_of f ps) (bit_string (host x)))
        where
          some : (q : List Bool × ℕ) → In q (pieces_of f ps) → begins q.0 (bit_string (host x)) ≡ true → h x ≡ Some q.1
          some q i b =
              let t = In-map entry (filter (in_family f) ps) q i in
              let m = In-from_filter (in_family f) ps t.0 t.1 in
              let c = subst (λ (r : List Bool × ℕ). begins r.0 (bit_string (host x)) ≡ true) t.2 b in
              tells h ps flat t.0 m.0 x (has_begun (Piece.block t.0) x (piece_is_block h ps flat t.0 m.0) a (family_from_test _ f m.1 ∙ sym e) c) ∙ ap (λ (r : List Bool × ℕ). Some r.1) (sym t.2)

          none : (o : Option ℕ) → h x ≡ o → ((q : List Bool × ℕ) → In q (pieces_of f ps) → begins q.0 (bit_string (host x)) ≡ true → ⊥) → h x ≡ None
          none None v n = v
          none (Some k) v n =
              let t = piece_at h ps flat x a k v in
              let p = t.0 in
              let g : Block.family (Piece.block p) ≡ x.family = sym t.2.0 in
              absurd (n (entry p) (map_In entry (filter (in_family f) ps) p (In-filter (in_family f) ps p t.1 (test_from_family _ f (g ∙ e)))) (begins_host (Piece.block p) x (piece_is_block h ps flat p t.1) a g t.2))

    pub are_pieces : ArePieces f h (pieces_of f ps)
    are_pieces = record {
      disjoint = pairs_from_Rising Apart (pieces_of f ps) rising;
      same = λ s e. ap (piece_hop (pieces_of f ps)) (sym (bits_at f s e)) ∙ told (address_at f s) (number_bound (width f) s) refl;
    }

-- ---- the pieces of each family as the flat list is walked

pub pieces_left : (f : Family) (left new : List Piece) (net n : IpNet) (k : ℕ) → net ≡ n → left ≡ record { block = block net; number = k } ∷ new → pieces_of f left ≡ pieces_of f (record { block = block n; number = k } ∷ new)
pieces_left f left new net n k e g = ap (pieces_of f) (g ∙ ap (λ m. record { block = block m; number = k } ∷ new) e)

-- those of a family that are not left are planned
abbrev pub ArePlanned : Family → List Piece → Planner Network → List Piece → Type 0
ArePlanned f all plan left = (front : List (List Bool × ℕ)) × (front ++ pieces_of f left ≡ pieces_of f all) × IsPlanned f plan front

-- the next one
module _ (h : Address → Option ℕ) (ps all : List Piece) (flat : IsFlat h ps) (same : all ≡ ps) (f : Family) (plan : Planner Network) (left new : List Piece) (p : ArePlanned f all plan left) (x : List Bool × ℕ) (is : pieces_of f left ≡ x ∷ pieces_of f new) where
  one_more : (p.0 ++ x ∷ []) ++ pieces_of f new ≡ pieces_of f all
  one_more = append_assoc p.0 (x ∷ []) (pieces_of f new) ∙ ap (λ t. p.0 ++ t) (sym is) ∙ p.1

  pub still_disjoint : AreDisjoint (p.0 ++ x ∷ [])
  still_disjoint = pairs_from_Rising Apart (p.0 ++ x ∷ []) (rising_front Apart (p.0 ++ x ∷ []) (pieces_of f new)
      (subst (Rising Apart) (ap (pieces_of f) (sym same) ∙ sym one_more) (rising h ps flat f)))

  pub planned_next : (then : Planner Network) → IsPlanned f then (p.0 ++ x ∷ []) → ArePlanned f all then new
  planned_next then done = (p.0 ++ x ∷ [], one_more, done)

-- one of the other family
pub planned_still : (f : Family) (all : List Piece) (plan : Planner Network) (left new : List Piece) → ArePlanned f all plan left → pieces_of f left ≡ pieces_of f new → ArePlanned f all plan new
planned_still f all plan left new p is = (p.0, ap (λ t. p.0 ++ t) (sym is) ∙ p.1, p.2)

-- at the end all are planned
pub all_planned : (f : Family) (ps all left : List Piece) (plan : Planner Network) → all ≡ ps → left ≡ [] → ArePlanned f all plan left → IsPlanned f plan (pieces_of f ps)
all_planned f ps all left plan same none p = subst (IsPlanned f plan) (sym (append-nil p.0) ∙ ap (λ ls. p.0 ++ pieces_of f ls) (sym none) ∙ p.1 ∙ ap (pieces_of f) same) p.2
