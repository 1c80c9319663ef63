-- A table whose addresses of one network got one hop, by what the routes outside hand down.
use Rattle.std.proofs.Common.{◌≡◌, ◌≢◌, ℕ, ◌<◌, ◌==◌, true, false, not, cond, List, Option, Some, None, refl, sym, ap, ◌∙◌, arith}
use Rattle.std.proofs.lemmas.Grind.{common_steps}
use Rattle.std.specs.Option.{option_eq, option_map}
use Rattle.ipnet_blocks.specs.Blocks.{Block, IsBlock, is_inside, parent}
use Rattle.ipnet.specs.IpNets.{block, network_at, parts}
use Rattle.ipnet.specs.declared.ip_net.IpNet.{IpNet}
use Rattle.route_choices.specs.declared.hop.Hop.{Hop}
use Rattle.route_choices.specs.Hops.{number_of}
use Rattle.route_choices.proofs.Kept.{filter_map_swap}
use Rattle.route_laws.specs.Changes.{same_number}
use Rattle.route_laws.specs.Networks.{Stored, best_route, networks_outside, routes_of}
use Rattle.route_laws.specs.Overwritten.{overwritten, without_inside}
use Rattle.route_laws.specs.Painted.{painted}
use Rattle.route_laws.specs.Tables.{Route, IsTable, item_of, match_number, match_of}
use Rattle.route_laws.proofs.Alterations.{same_itself}
use Rattle.route_laws.proofs.Overwritten.{inherited_from_parent}
use Rattle.route_laws.proofs.NetworksAt.{of_network_at}
use Rattle.route_laws.proofs.Matches.{not_cases}

-- the number at a match, by the item of the match
pub number_of_none : (m : Option Route) → None ≡ option_map item_of m → match_number m ≡ None
number_of_none m e = grind (arith, common_steps)

pub number_of_item : (m : Option Route) (n : IpNet) (h : Hop) (p : ℕ) → Some (n, h, p) ≡ option_map item_of m → number_of h ≡ match_number m
number_of_item m n h p e = grind (arith, common_steps)

pub tests_same : (o p : Option ℕ) → option_eq (λ j k. j == k) o p ≡ same_number o p
tests_same None None = refl
tests_same None (Some k) = refl
tests_same (Some j) None = refl
tests_same (Some j) (Some k) = refl

pub differ_from_test : (o p : Option ℕ) → same_number o p ≡ false → o ≢ p
differ_from_test o p e same = not_cases (same_number o p) (ap not e) (ap (same_number o) (sym same) ∙ same_itself o)

-- whether a hop is handed down to a block, by what is found of it
pub same_test : (M : List Route) (d b : Block) (h : Hop) (o p : Option ℕ) → d ≡ b → o ≡ match_number (match_of (without_inside M d) d) → p ≡ number_of h
    → same_number (match_number (match_of (without_inside M b) b)) (number_of h) ≡ option_eq (λ j k. j == k) o p
same_test M d b h o p e f g =
    (λ i. same_number (match_number (match_of (without_inside M (sym e i)) (sym e i))) (number_of h)) ∙ (λ i. same_number (sym f i) (sym g i)) ∙ sym (tests_same o p)

-- what is handed down to a network is the match of its supernet
pub inherited_through : (M : List Route) → IsTable M → (n up : IpNet) → IsBlock (block n) → 0 < (parts n).len → up ≡ network_at (parent (block n))
    → match_number (match_of M (block up)) ≡ match_number (match_of (without_inside M (block n)) (block n))
inherited_through M t n up ok l e =
    ap (λ d. match_number (match_of M d)) (ap block e ∙ of_network_at (parent (block n))) ∙ ap match_number (sym (inherited_from_parent M t (block n) ok l))

-- the routes of the networks outside
pub routes_outside : (T : List Stored) (b : Block) → routes_of (networks_outside T b) ≡ without_inside (routes_of T) b
routes_outside T b = sym (filter_map_swap best_route (λ r. not (is_inside r.block b)) T)

module _ (M : List Route) (r : Route) where
  pub painted_bare : same_number (match_number (match_of (without_inside M r.block) r.block)) (number_of r.hop) ≡ true → painted M r ≡ without_inside M r.block
  painted_bare e = ap (λ c. cond c (without_inside M r.block) (overwritten M r)) e

  pub painted_over : same_number (match_number (match_of (without_inside M r.block) r.block)) (number_of r.hop) ≡ false → painted M r ≡ overwritten M r
  painted_over e = ap (λ c. cond c (without_inside M r.block) (overwritten M r)) e
