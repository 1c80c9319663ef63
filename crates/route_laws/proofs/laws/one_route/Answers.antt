-- The table of one route, and that of none.
use Rattle.std.proofs.Common.{◌≡◌, ℕ, ◌<◌, ◌^◌, inl, ⊎_elim, cond, true, List, [], ◌∷◌, map, Option, Some, None, refl, sym, ◌∙◌, subst}
use Rattle.std.proofs.lemmas.Bool.{cond-false, cond-true, true_from_ne_false}
use Rattle.std.proofs.lemmas.Option.{cond_some, none-some}
use Rattle.ipnet_addr.specs.Addresses.{Address, IsAddress}
use Rattle.ipnet_addr.proofs.Ascending.{Contains-from_In, In-from_Contains, Rising-from_pairs, pairs_from_Rising}
use Rattle.ipnet_blocks.specs.Blocks.{Block, IsBlock, IsBefore, HasAddress, first_of, has_address}
use Rattle.ipnet_blocks.specs.Maximal.{IsMaximal, IsMaximalBlock, maximal_of}
use Rattle.ipnet_blocks.proofs.BlockLaws.{has_first}
use Rattle.ipnet_blocks.proofs.BlockTests.{has_from_test, test_from_has}
use Rattle.ipnet_blocks.proofs.Maximals.{maximal_is_unique, member_is_address}
use Rattle.ipnet_blocks.proofs.Unions.{maximal_same, maximal_none}
use Rattle.route_choices.proofs.Kept.{In-map, map_In}
use Rattle.route_laws.specs.Changes.{changed}
use Rattle.route_laws.specs.Flats.{Piece, IsFlat, flat_of}
use Rattle.route_laws.specs.Laws.{one_route}
use Rattle.route_laws.specs.Tables.{Changed, hop_at}
use Rattle.route_laws.proofs.Alterations.{changed_is_maximal}
use Rattle.route_laws.proofs.Flats.{Sooner, maximal_one, same_flat, search_is_flat}
use Rattle.route_laws.proofs.Insides.{empty_is_table}
use Rattle.route_laws.proofs.Matches.{Rising-map}
use Rattle.route_laws.proofs.Overwritten.{over_hops}
use Rattle.route_laws.proofs.laws.one_route.Goals as goal

-- where no address has another number than k, the pieces are the maximal blocks of k
module _ (h : Address → Option ℕ) (k : ℕ) (only : (x : Address) → IsAddress x → (n : ℕ) → h x ≡ Some n → k ≡ n) where
  abbrev piece : Block → Piece
  piece b = record { block = b; number = k }

  one_number : (bs : List Block) → IsMaximal (λ x. h x ≡ Some k) bs → flat_of h ≡ map piece bs
  one_number bs m = (same_flat h h (flat_of h) (map piece bs) (search_is_flat h) is_flat).1 (λ x a. refl)
    where
      is_flat : IsFlat h (map piece bs)
      is_flat = record {
        ascending = pairs_from_Rising Sooner _ (Rising-map IsBefore _ piece (λ b c l. l) bs (Rising-from_pairs _ bs m.ascending));
        exact = λ p. (
          (λ c.
              let t = In-map piece bs p (In-from_Contains (map piece bs) p c) in
              rw t.2 ((m.exact t.0).0 (Contains-from_In bs t.0 t.1))),
          (λ w.
              let x = first_of p.block in
              let e = only x (member_is_address _ x w.within.block (has_first _)) p.number (w.within.all x (has_first _)) in
              let c = (m.exact p.block).1 (subst (λ n. IsMaximalBlock (λ x. h x ≡ Some n) p.block) (sym e) w) in
              let s : piece p.block ≡ p = λ i. record { block = p.block; number = e i } in
              Contains-from_In (map piece bs) p (rw s at (map_In piece bs p.block (In-from_Contains bs p.block c)))),
        );
      }

module _ (b : Block) (ok : IsBlock b) where
  -- the addresses of a block have one maximal block
  one_block : IsMaximal (HasAddress b) (b ∷ [])
  one_block = record {
    ascending = pairs_from_Rising IsBefore (b ∷ []) ((λ c i. absurd i), tt);
    exact = λ c. (
      (λ i. ⊎_elim (λ e. subst (IsMaximalBlock (HasAddress b)) (sym e) is_top) (λ j. absurd j) (In-from_Contains (b ∷ []) c i)),
      (λ m. Contains-from_In (b ∷ []) c (inl (maximal_one (HasAddress b) c b m is_top (first_of c) (has_first c) (m.within.all (first_of c) (has_first c))))),
    );
  }
    where
      is_top : IsMaximalBlock (HasAddress b) b
      is_top = record { within = record { block = ok; all = λ x h. h }; largest = λ c w l. l.1 w.all }

  module _ (k : ℕ) (fits : k < 2 ^ 32) where
    -- one route in the place of none
    hops : (x : Address) → IsAddress x → hop_at (one_route b k) x ≡ cond (has_address b x) (Some k) None
    hops = over_hops [] empty_is_table _ ok fits

    inside : (x : Address) → IsAddress x → HasAddress b x → hop_at (one_route b k) x ≡ Some k
    inside x a h = hops x a ∙ cond-true (has_address b x) (Some k) None (test_from_has b x h)

    told : (x : Address) → IsAddress x → (n : ℕ) → hop_at (one_route b k) x ≡ Some n → (has_address b x ≡ true) × (k ≡ n)
    told x a n e = cond_some (has_address b x) k n (sym (hops x a) ∙ e)

    is_changed : maximal_of (changed [] (one_route b k)) ≡ b ∷ []
    is_changed = maximal_is_unique (Changed [] (one_route b k)) (maximal_of (changed [] (one_route b k))) (b ∷ []) (changed_is_maximal [] (one_route b k))
        (maximal_same (HasAddress b) (Changed [] (one_route b k)) (λ x a h e. none-some k (e ∙ inside x a h))
        (λ x a d. has_from_test b x (true_from_ne_false (has_address b x) (λ f. d (sym (hops x a ∙ cond-false _ _ _ f)))))
        (b ∷ []) one_block)

    is_flat : flat_of (hop_at (one_route b k)) ≡ record { block = b; number = k } ∷ []
    is_flat = one_number (hop_at (one_route b k)) k (λ x a n e. (told x a n e).1) (b ∷ [])
        (maximal_same (HasAddress b) _ inside (λ x a e. has_from_test b x (told x a k e).0) (b ∷ []) one_block)

pub returns : goal.returns
returns c = record {
  empty = one_number (hop_at []) 0 (λ x a n e. absurd (none-some n e)) [] (maximal_none _ (λ x e. none-some 0 e));
  changed = λ b k ok fits. is_changed b ok k fits;
  hops = λ b k x ok fits a. hops b ok k fits x a;
  flat = λ b k ok fits. is_flat b ok k fits;
}
