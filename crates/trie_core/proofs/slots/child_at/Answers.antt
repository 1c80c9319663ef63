use Rattle.std.proofs.Common.{◌∙◌, ap, sym, Some}
use Rattle.shape.specs.Shapes.{shape_children}
use Rattle.trie_core.proofs.Taken.{taken, missing}
use Rattle.trie_core.proofs.slots.child_at.Goals as goal

pub child-requires : goal.child-requires
child-requires g c = (taken c.args.place c.in-Some.at c.args.taken (shape_children c.args.body.now) c.requires.below c.in-Some.ensures c.requires.counted).within

pub returns-in-None : goal.returns-in-None
returns-in-None g c = missing c.args.place c.args.taken (shape_children c.args.body.now) c.in-None.ensures

pub returns-in-Some : goal.returns-in-Some
returns-in-Some g c =
    let t = taken c.args.place c.in-Some.at c.args.taken (shape_children c.args.body.now) c.requires.below c.in-Some.ensures c.requires.counted in
    ap Some c.child.ensures ∙ sym (t.read c.child.result.now)
