-- Changes carried out one after another.
use Rattle.std.proofs.Common.{◌≡◌, ℕ, ◌+◌, ◌<◌, Bool, true, false, cond, List, [], ◌∷◌, ◌++◌, length, take, slice_index_or, Option, refl, sym, ap, ◌∙◌, arith}
use Rattle.std.proofs.lemmas.List.{take_more, map-append}
use Rattle.ipnet.specs.IpNets.{block}
use Rattle.ipnet.specs.declared.ip_net.IpNet.{IpNet}
use Rattle.route_choices.specs.declared.hop.Hop.{Hop}
use Rattle.route_choices.specs.Hops.{number_of}
use Rattle.route_feed.specs.InnerWaiting.{waiting_change, changes_of}
use Rattle.ipnet_addr.specs.Addresses.{Address}
use Rattle.ipnet_blocks.specs.Blocks.{has_address}
use Rattle.route_feed.specs.Streams.{Change, painted_over}

-- one thing either way
pub either : {A : Type 0} (b : Bool) (x : A) → cond b x x ≡ x
either true x = refl
either false x = refl

pub painted-append : (now : Option ℕ) (cs ds : List Change) (x : Address) → painted_over now (cs ++ ds) x ≡ painted_over (painted_over now cs x) ds x
painted-append now [] ds x = refl
painted-append now (c ∷ cs) ds x = painted-append (cond (has_address c.block x) c.number now) cs ds x

-- a list, at one of its places
pub before_place : {A : Type 0} (xs : List A) (i : ℕ) (x : A) → i < length xs → x ≡ slice_index_or xs i x → take (i + 1) xs ≡ take i xs ++ x ∷ []
before_place xs i x h is = ap (λ k. take k xs) (omega arith) ∙ take_more xs i x h ∙ ap (λ y. take i xs ++ y ∷ []) (sym is)

-- the next change
pub one_more : (now : Option ℕ) (ws : List (IpNet × Hop)) (i : ℕ) (w : IpNet × Hop) (x : Address) → i < length ws → w ≡ slice_index_or ws i w
    → cond (has_address (block w.0) x) (number_of w.1) (painted_over now (changes_of (take i ws)) x) ≡ painted_over now (changes_of (take (i + 1) ws)) x
one_more now ws i w x h is =
    let mapped : changes_of (take (i + 1) ws) ≡ changes_of (take i ws) ++ waiting_change w ∷ [] = ap changes_of (before_place ws i w h is) ∙ map-append waiting_change (take i ws) (w ∷ []) in
    sym (painted-append now (changes_of (take i ws)) (waiting_change w ∷ []) x) ∙ ap (λ l. painted_over now l x) (sym mapped)
