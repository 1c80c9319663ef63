use Rattle.std.proofs.Common.{◌≡◌, ℕ, ◌≤◌, arith}
use Rattle.hop_index.specs.InnerNodes.{cell_in}
use Rattle.hop_index.proofs.Divisions.{leads_to_it}
use Rattle.hop_index.proofs.nodes.Nodes.add_last.Goals as goal

pub add-requires-clause-entries : goal.add-requires-clause-entries
add-requires-clause-entries g c = λ d before after.
    let last : c.over-node.result.last ≤ 0 = c.over-node.ensures.last in
    let first : (x : ℕ) → cell_in c.over-node.result x ≡ 0 = λ x. omega arith in
    λ x l. rw (first x) (omega arith, λ b. leads_to_it c.args.self.now.nodes.items d c.args.self.now.ranges x c.in_ok-own.own c.in_ok-own.ensures (rw (before, after) b))
