use Rattle.std.proofs.Common.{◌∙◌, ap, sym, set, Some, arith}
use Rattle.std.proofs.Math.Facts.{Fits-of_lt}
use Rattle.shape.specs.Shapes.{shape_values}
use Rattle.shape.proofs.With.{values_with}
use Rattle.trie_core.specs.InnerPlaces.{at_places}
use Rattle.trie_core.proofs.Taken.{free, taken, missing, put_in}
use Rattle.trie_core.proofs.Edits.{set_fits}
use Rattle.trie_core.proofs.slots.put_value.Goals as goal

pub value_mut-item-requires : goal.value_mut-item-requires
value_mut-item-requires g c =
    let t = taken c.args.place c.in-Some.at c.args.taken.now (shape_values c.args.body.now) c.requires.below c.in-Some.ensures c.requires.counted in
    t.within

pub returns-then-not-may_grow-clause-absent : goal.returns-then-not-may_grow-clause-absent
returns-then-not-may_grow-clause-absent g c = sym (missing c.args.place c.args.taken.now (shape_values c.args.body.now) c.in-None.ensures)

pub insert_value-requires : goal.insert_value-requires
insert_value-requires g c =
    let f = free c.args.place c.taken_below.result c.args.taken.now (shape_values c.args.body.now) c.requires.below (omega arith) c.in-None.ensures c.taken_below.ensures c.requires.counted in
    f.within

pub overflow_add-taken : goal.overflow_add-taken
overflow_add-taken g c =
    let f = free c.args.place c.taken_below.result c.args.taken.now (shape_values c.args.body.now) c.requires.below (omega arith) c.in-None.ensures c.taken_below.ensures c.requires.counted in
    Fits-of_lt (omega (arith, f.fits, c.bit.ensures))

pub returns-in-Some-clause-old : goal.returns-in-Some-clause-old
returns-in-Some-clause-old g c =
    let t = taken c.args.place c.in-Some.at c.args.taken.now (shape_values c.args.body.now) c.requires.below c.in-Some.ensures c.requires.counted in
    ap Some (c.replace.ensures.value ∙ c.value_mut-item.ensures.value) ∙ sym (t.read c.value_mut-item.result.now)

pub returns-in-Some-clause-items : goal.returns-in-Some-clause-items
returns-in-Some-clause-items g c =
    let t = taken c.args.place c.in-Some.at c.args.taken.now (shape_values c.args.body.now) c.requires.below c.in-Some.ensures c.requires.counted in
    ap (at_places 32 0 c.args.taken.now) (values_with c.args.body.now c.in-Some.at _ t.within ∙ ap (set (shape_values c.args.body.now) c.in-Some.at) c.replace.ensures.after) ∙ t.written c.args.thing

pub returns-in-Ok-clause-old : goal.returns-in-Ok-clause-old
returns-in-Ok-clause-old g c = missing c.args.place c.args.taken.now (shape_values c.args.body.now) c.in-None.ensures

pub returns-in-Ok-clause-items : goal.returns-in-Ok-clause-items
returns-in-Ok-clause-items g c =
    let f = free c.args.place c.taken_below.result c.args.taken.now (shape_values c.args.body.now) c.requires.below (omega arith) c.in-None.ensures c.taken_below.ensures c.requires.counted in
    (put_in c.args.place c.taken_below.result c.args.taken.now c.bit.result c.args.thing (shape_values c.args.body.now) (shape_values c.insert_value.new.self) f c.bit.ensures c.in-Ok.ensures.values).0

pub returns-in-Ok-clause-counted : goal.returns-in-Ok-clause-counted
returns-in-Ok-clause-counted g c =
    let f = free c.args.place c.taken_below.result c.args.taken.now (shape_values c.args.body.now) c.requires.below (omega arith) c.in-None.ensures c.taken_below.ensures c.requires.counted in
    (put_in c.args.place c.taken_below.result c.args.taken.now c.bit.result c.args.thing (shape_values c.args.body.now) (shape_values c.insert_value.new.self) f c.bit.ensures c.in-Ok.ensures.values).1

pub returns-in-Err-clause-absent : goal.returns-in-Err-clause-absent
returns-in-Err-clause-absent g c = sym (missing c.args.place c.args.taken.now (shape_values c.args.body.now) c.in-None.ensures)

pub returns-in-Ok-clause-below : goal.returns-in-Ok-clause-below
returns-in-Ok-clause-below g c = λ w l b. omega (arith, set_fits w c.args.place c.args.taken.now l b c.in-None.ensures, c.bit.ensures)
