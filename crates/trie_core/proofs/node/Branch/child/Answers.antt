use Rattle.std.proofs.Common.{◌≡◌, ◌∙◌, ap, sym, Some, None, MatchOption, option_copied, nat_cmp, arith}
use Rattle.std.specs.FinMap.{find}
use Rattle.shape.specs.Shapes.{shape_children}
use Rattle.trie_core.specs.InnerPlaces.{child_of, at_places}
use Rattle.trie_core.specs.InnerSearch.{IsChild, HasNoChild}
use Rattle.trie_core.proofs.Seen.{seen, is_child, has_no_child}
use Rattle.trie_core.proofs.node.Branch.child.Goals as goal

pub child_at-requires : goal.child_at-requires
child_at-requires g c = record { below = omega (arith, c.five.ensures.below); counted = c.self.invariant.children_counted }

pub returns : goal.returns
returns g c =
    let s = seen c.self.invariant c.self.view_is in
    let e = c.child_at.ensures ∙ ap (λ n. find nat_cmp n (at_places 32 0 c.self.inside.child_bits (shape_children c.self.inside.body))) c.five.ensures.value in
    elim c.child_at.result as (λ o. option_copied o ≡ find nat_cmp (child_of c.args.path.now) (at_places 32 0 c.self.inside.child_bits (shape_children c.self.inside.body)) → MatchOption o (HasNoChild c.args.path.now c.args.self.now) (λ n. IsChild c.args.path.now c.args.self.now n.now)) [
      | None ↦ λ f. has_no_child c.args.path.now s c.requires (sym f)
      | Some n ↦ λ f. is_child c.args.path.now n.now s c.requires (sym f)
    ] e
