use Rattle.std.proofs.Common.{ℕ, suc, ◌≡◌, ◌+◌, ◌-◌, ◌*◌, ◌/◌, ◌%◌, ◌^◌, ◌∙◌, insert, arith}
use Rattle.std.proofs.lemmas.Nat.{mod_below}
use Rattle.trie_core.specs.InnerChains.{chain, skipped}
use Rattle.trie_core.proofs.Skipped.{one_slots, one_view, split_same}
use Rattle.trie_core.proofs.insert.split.Goals as goal

pub invariant_of-branch : goal.invariant_of-branch
invariant_of-branch g c =
    let below = c.args.levels - c.args.at - 1 in
    let low = λ (w : ℕ). chain below (skipped below w) c.args.branch in
    one_slots (c.args.skip / 2 ^ (5 * below) % 32) (low (c.args.skip % 2 ^ (5 * below))) (mod_below (c.args.skip / 2 ^ (5 * below)) 32 (omega arith)) (c.insert_child.ensures.values ∙ c.reserve_child.ensures.values ∙ c.new-body.ensures.values) c.bit.ensures
    (c.insert_child.ensures.children ∙ (λ i. insert ((c.reserve_child.ensures.children ∙ c.new-body.ensures.children) i) 0 (low (c.low_bits.ensures i))))

pub returns-clause-same : goal.returns-clause-same
returns-clause-same g c =
    let below = c.args.levels - c.args.at - 1 in
    let low = λ (w : ℕ). chain below (skipped below w) c.args.branch in
    let e : 5 * (c.args.levels - c.args.at - 1 + 1) ≡ 5 * suc below = omega arith in
    (λ i. chain c.args.at (skipped c.args.at (c.args.skip / 2 ^ e i)) (one_view (c.args.skip / 2 ^ (5 * below) % 32) (low (c.args.skip % 2 ^ (5 * below))) (c.insert_child.ensures.values ∙ c.reserve_child.ensures.values ∙ c.new-body.ensures.values) c.bit.ensures
    (c.insert_child.ensures.children ∙ (λ j. insert ((c.reserve_child.ensures.children ∙ c.new-body.ensures.children) j) 0 (low (c.low_bits.ensures j)))) i))
    ∙ split_same c.args.at c.args.levels below c.args.skip c.args.branch (omega (arith, c.requires.levels))
