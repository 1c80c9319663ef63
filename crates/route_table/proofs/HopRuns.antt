-- The addresses of a run, and the blocks that they are cut into.
use Rattle.std.proofs.Common.{◌≡◌, ℕ, ◌^◌, ◌<◌, ◌≤◌, ◌⊎◌, inl, inr, ⊎_elim, ◌&&◌, ◌↔◌, nat_le, Any, List, [], ◌∷◌, ◌++◌, refl, sym, ap, ◌∙◌, subst, arith}
use Rattle.std.proofs.lemmas.Bool.{and_parts, cases_Bool}
use Rattle.std.proofs.lemmas.Bool.Decides.{nat_tests}
use Rattle.ipnet_addr.specs.Addresses.{Family, width, same_family, Address}
use Rattle.ipnet_addr.proofs.Families.{family_from_test, test_from_family}
use Rattle.ipnet_addr.proofs.Ascending.{Contains-from_In, In-from_Any}
use Rattle.ipnet_blocks.specs.Blocks.{Block, HasAddress, first, last}
use Rattle.ipnet_blocks.specs.Cuts.{cut}
use Rattle.ipnet_blocks.specs.InnerSpans.{limits_of}
use Rattle.ipnet_blocks.specs.declared.aggregate.Span.{Span}
use Rattle.ipnet_blocks.proofs.Cuts.{Between}
use Rattle.ipnet_blocks.proofs.Lists.{any_one, one_any}
use Rattle.ipnet_blocks.proofs.Maximals.{maximal_is_union}
use Rattle.ipnet_blocks.proofs.Netmasks.{block_is_interval}
use Rattle.ipnet.specs.IpNets.{block}
use Rattle.ipnet.specs.declared.ip_net.IpNet.{IpNet}
use Rattle.route_laws.specs.Flats.{Piece, flat_of}
use Rattle.route_table.specs.InnerFlattening.{hops_of, pieces_left, pieces_of}
use Rattle.route_table.specs.InnerRouteSpans.{Run}
use Rattle.route_table.specs.Items.{BeginsWithRun, run_family, run_first, run_hop, run_last}
use Rattle.route_table.specs.declared.flat.BothRuns.{BothRuns}
use Rattle.route_table.specs.declared.flat.Pieces.{Pieces}
use Rattle.route_table.specs.declared.hop_run.HopRun.{HopRun}
use Rattle.route_table.proofs.FlatRuns.{IsNextRun, cut_is_maximal}
use Rattle.route_table.proofs.Governings.{first_to_last}

-- a block alone
pub run_of_block : (b : Block) (r : HopRun) (left : List Piece) → run_family r ≡ b.family → run_first r ≡ first b → run_last r ≡ last b → BeginsWithRun (record { block = b; number = run_hop r } ∷ left) r left
run_of_block b r left f a z = record {
  some = omega (arith, a, z, first_to_last b);
  blocks = b ∷ [];
  pieces = refl;
  addresses = λ x. (
    (λ i. let h = (block_is_interval b x).0 (one_any (λ c. HasAddress c x) b i) in (h.0 ∙ sym f, omega (arith, a, h.1), omega (arith, z, h.2))),
    (λ i. any_one (λ c. HasAddress c x) b ((block_is_interval b x).1 (i.0 ∙ f, omega (arith, a, i.1), omega (arith, z, i.2)))),
  );
}

-- a span, cut into blocks
module _ (f : Family) (s : Span) (some : s.first ≤ s.last) (top : s.last < 2 ^ width f) where
  decide : (x : Address) → Between f s.first s.last x ⊎ (Between f s.first s.last x → ⊥)
  decide x = ⊎_elim
      (λ t. let a = and_parts (same_family x.family f) (nat_le s.first x.number && nat_le x.number s.last) t in
      inl (family_from_test x.family f a.0, grind (arith, nat_tests, a.1), grind (arith, nat_tests, a.1)))
      (λ t. inr (λ i. grind (arith, nat_tests, t, test_from_family x.family f i.0, i.1, i.2)))
      (cases_Bool (same_family x.family f && (nat_le s.first x.number && nat_le x.number s.last)))

  covered : (x : Address) → Any (λ b. HasAddress b x) (cut f (limits_of s)) ↔ Between f s.first s.last x
  covered x =
      let maximal = cut_is_maximal f s some top in (
        (λ i. let t = In-from_Any (λ b. HasAddress b x) (cut f (limits_of s)) i in
            ((maximal.exact t.0).0 (Contains-from_In (cut f (limits_of s)) t.0 t.1)).within.all x t.2),
        (λ i. let w : x.number < 2 ^ width f = omega (arith, i.2) in
            ((maximal_is_union (Between f s.first s.last) decide (cut f (limits_of s)) maximal).exact x (subst (λ g. x.number < 2 ^ width g) (sym i.0) w)).0 i),
      )

-- the next run of both families
pub run_of_next : {f : Family} {w : BothRuns} {r : Run} {v : BothRuns} → IsNextRun f w r v → (run : HopRun) → run_family run ≡ f → run_first run ≡ r.span.first → run_last run ≡ r.span.last → run_hop run ≡ r.number
    → BeginsWithRun (flat_of (hops_of w)) run (flat_of (hops_of v))
run_of_next {f} {w} {r} {v} next run e a z k = record {
  some = omega (arith, a, z, next.some);
  blocks = cut f (limits_of r.span);
  pieces = rw k next.flat;
  addresses = λ x. (
    (λ i. let t = (covered f r.span next.some next.top x).0 i in (t.0 ∙ sym e, omega (arith, a, t.1), omega (arith, z, t.2))),
    (λ i. (covered f r.span next.some next.top x).1 (i.0 ∙ e, omega (arith, a, i.1), omega (arith, z, i.2))),
  );
}

-- a piece of a run that is cut already
pub piece_then : (p q : Pieces) (w : BothRuns) (all : List Piece) (r : HopRun) (n : IpNet) (k : ℕ) → pieces_left p w ≡ all → pieces_of p ≡ record { block = block n; number = k } ∷ pieces_of q
    → ((left : List Piece) → BeginsWithRun (record { block = block n; number = k } ∷ left) r left) → BeginsWithRun all r (pieces_left q w)
piece_then p q w all r n k is e given = subst (λ ps. BeginsWithRun ps r (pieces_left q w)) (ap (λ ps. ps ++ flat_of (hops_of w)) (sym e) ∙ is) (given (pieces_left q w))
