-- What a node becomes as what it lends is written.
use Rattle.std.proofs.Common.{◌≡◌, ℕ, zero, suc, ◌*◌, ◌≤◌, ◌∙◌, Bool, List, length, take, drop, refl, sym, ap, subst, inl, inr, IsSome, arith}
use Rattle.std.specs.FinMap.{get}
use Rattle.std.proofs.lemmas.Bool.{cases_lt, cases_Bool}
use Rattle.ipnet_addr.proofs.Basics.{none_some}
use Rattle.trie_core.specs.InnerPlaces.{child_of}
use Rattle.trie_core.specs.Nodes.{Seen}
use Rattle.trie_core.specs.InnerLending.{node_with}
use Rattle.trie_core.specs.InnerChains.{over, chain, skipped, Starts}
use Rattle.trie_core.proofs.Numbers.{number_bound}
use Rattle.trie_core.proofs.Strings.{same, same-Decides, not_same}
use Rattle.trie_core.proofs.Lent.{lent_below}
use Rattle.trie_core.proofs.Chains.{over_seen, over_taken, chain_along, chain_get, chain_step}
use Rattle.trie_core.proofs.Skipped.{skipped_none}

module _ {X : Type 0} where
  -- a key begins with the skipped levels
  pub skipped_starts : (k skip : ℕ) (q : List Bool) (m w : Seen X) → chain k (skipped k skip) m ≡ w → IsSome (get w.entries q) → Starts k skip q
  skipped_starts k skip q m w v o = elim (cases_lt (length q) (5 * k)) [
    | inl l ↦ absurd (none_some (skipped_none k skip q m w v (λ s. omega (arith, s.0, l))) o)
    | inr h ↦ elim (cases_Bool (same (take (5 * k) q) (skipped k skip))) [
      | inl t ↦ (h, (same-Decides (take (5 * k) q) (skipped k skip)).0 t)
      | inr f ↦ absurd (none_some (skipped_none k skip q m w v (λ s. not_same f s.1)) o)
    ]
  ]

  chain_lent : (k : ℕ) (q r : List Bool) (e : Seen X) (w : X) → 5 * k ≤ length q → r ≡ drop (5 * k) q → IsSome (get e.entries r) → chain k q (node_with e r w) ≡ node_with (chain k q e) q w
  chain_lent zero q r e w l f o = ap (λ p. node_with e p w) f
  chain_lent (suc k) q r e w l f o =
      let t = chain_step k q r l f in
      let n = child_of q in
      let c = chain k (drop 5 q) e in
      let b = number_bound 5 q in
      ap (over n) (chain_lent k (drop 5 q) r e w t.0 t.1 o)
      ∙ lent_below q (drop 5 q) c w (over_seen n c b) (omega (arith, l)) refl (over_taken n c b) refl (subst IsSome (sym (chain_get k (drop 5 q) r e t.0 t.1)) o)

  pub skipped_lent : {m : Seen X} (k skip : ℕ) (q r : List Bool) (e : Seen X) (w : X) → chain k (skipped k skip) e ≡ m → Starts k skip q → r ≡ drop (5 * k) q → IsSome (get e.entries r) → chain k (skipped k skip) (node_with e r w) ≡ node_with m q w
  skipped_lent k skip q r e w v s f o =
      chain_along k q (skipped k skip) (node_with e r w) s.0 s.1 ∙ chain_lent k q r e w s.0 f o ∙ ap (λ n. node_with n q w) (sym (chain_along k q (skipped k skip) e s.0 s.1) ∙ v)
