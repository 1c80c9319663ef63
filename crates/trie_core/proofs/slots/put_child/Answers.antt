use Rattle.std.proofs.Common.{arith}
use Rattle.std.proofs.Math.Facts.{Fits-of_lt}
use Rattle.shape.specs.Shapes.{shape_children}
use Rattle.trie_core.proofs.Taken.{free, put_in}
use Rattle.trie_core.proofs.Edits.{set_fits}
use Rattle.trie_core.proofs.slots.put_child.Goals as goal

pub insert_child-requires-clause-within : goal.insert_child-requires-clause-within
insert_child-requires-clause-within g c =
    (free c.args.place c.taken_below.result c.args.taken.now (shape_children c.args.body.now) c.requires.below (omega arith) c.requires.free c.taken_below.ensures c.requires.counted).within

pub overflow_add-taken : goal.overflow_add-taken
overflow_add-taken g c =
    let f = free c.args.place c.taken_below.result c.args.taken.now (shape_children c.args.body.now) c.requires.below (omega arith) c.requires.free c.taken_below.ensures c.requires.counted in
    Fits-of_lt (omega (arith, f.fits, c.bit.ensures))

pub returns-clause-items : goal.returns-clause-items
returns-clause-items g c =
    let f = free c.args.place c.taken_below.result c.args.taken.now (shape_children c.args.body.now) c.requires.below (omega arith) c.requires.free c.taken_below.ensures c.requires.counted in
    (put_in c.args.place c.taken_below.result c.args.taken.now c.bit.result c.args.child (shape_children c.args.body.now) (shape_children c.insert_child.new.self) f c.bit.ensures c.insert_child.ensures.children).0

pub returns-clause-counted : goal.returns-clause-counted
returns-clause-counted g c =
    let f = free c.args.place c.taken_below.result c.args.taken.now (shape_children c.args.body.now) c.requires.below (omega arith) c.requires.free c.taken_below.ensures c.requires.counted in
    (put_in c.args.place c.taken_below.result c.args.taken.now c.bit.result c.args.child (shape_children c.args.body.now) (shape_children c.insert_child.new.self) f c.bit.ensures c.insert_child.ensures.children).1

pub returns-clause-below : goal.returns-clause-below
returns-clause-below g c = λ w l b. omega (arith, set_fits w c.args.place c.args.taken.now l b c.requires.free, c.bit.ensures)
