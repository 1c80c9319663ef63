use Rattle.std.proofs.Common.{◌∙◌, sym, ap, subst, Some}
use Rattle.shape.specs.Shapes.{shape_children}
use Rattle.trie_core.specs.InnerPlaces.{child_of, IsUnset}
use Rattle.trie_core.proofs.Seen.{seen, is_child, has_no_child}
use Rattle.trie_core.proofs.Taken.{missing}
use Rattle.trie_core.proofs.Changes.{way}
use Rattle.trie_core.proofs.owned_frame.child_of_branch.Goals as goal

pub returns-in-None : goal.returns-in-None
returns-in-None g c =
    let q = c.args.path.now in
    has_no_child q (seen c.branch.invariant c.branch.view_is) c.requires (sym (missing (child_of q) c.branch.inside.child_bits (shape_children c.branch.inside.body) (subst (λ i. IsUnset i c.branch.inside.child_bits) c.five.ensures.value c.in-None.ensures)))

pub remove_child-requires : goal.remove_child-requires
remove_child-requires g c = (way c.args.path.now (seen c.branch.invariant c.branch.view_is) c.five.ensures.value c.in-Some.ensures).within

pub returns-in-Some : goal.returns-in-Some
returns-in-Some g c =
    let s = seen c.branch.invariant c.branch.view_is in
    let t = way c.args.path.now s c.five.ensures.value c.in-Some.ensures in
    is_child c.args.path.now c.remove_child.result s c.requires (t.read c.remove_child.result ∙ ap Some (sym c.remove_child.ensures.child))
