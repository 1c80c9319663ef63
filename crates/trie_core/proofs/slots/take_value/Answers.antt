use Rattle.std.proofs.Common.{◌∙◌, ap, sym, Some}
use Rattle.shape.specs.Shapes.{shape_values}
use Rattle.trie_core.proofs.Edits.{without_none}
use Rattle.trie_core.proofs.Taken.{taken, missing, taken_out}
use Rattle.trie_core.proofs.slots.take_value.Goals as goal

pub returns-in_err-at-clause-value : goal.returns-in_err-at-clause-value
returns-in_err-at-clause-value g c = let m = missing c.args.place c.args.taken.now (shape_values c.args.body.now) c.in_err-at.ensures in c.from_residual.ensures ∙ m

pub returns-in_err-at-clause-items : goal.returns-in_err-at-clause-items
returns-in_err-at-clause-items g c = sym (without_none c.args.place _ (sym (missing c.args.place c.args.taken.now (shape_values c.args.body.now) c.in_err-at.ensures)))

pub remove_value-thing-requires : goal.remove_value-thing-requires
remove_value-thing-requires g c =
    let t = taken c.args.place c.in_ok-at.at c.args.taken.now (shape_values c.args.body.now) c.requires.below c.in_ok-at.ensures c.requires.counted in
    t.within

pub returns-clause-value : goal.returns-clause-value
returns-clause-value g c =
    let t = taken c.args.place c.in_ok-at.at c.args.taken.now (shape_values c.args.body.now) c.requires.below c.in_ok-at.ensures c.requires.counted in
    ap Some c.remove_value-thing.ensures.value ∙ sym (t.read c.remove_value-thing.result)

pub returns-clause-items : goal.returns-clause-items
returns-clause-items g c =
    let t = taken c.args.place c.in_ok-at.at c.args.taken.now (shape_values c.args.body.now) c.requires.below c.in_ok-at.ensures c.requires.counted in
    (taken_out c.args.place c.in_ok-at.at c.args.taken.now c.bit.result (shape_values c.args.body.now) (shape_values c.remove_value-thing.new.self) t c.bit.ensures c.remove_value-thing.ensures.values).0

pub returns-clause-counted : goal.returns-clause-counted
returns-clause-counted g c =
    let t = taken c.args.place c.in_ok-at.at c.args.taken.now (shape_values c.args.body.now) c.requires.below c.in_ok-at.ensures c.requires.counted in
    (taken_out c.args.place c.in_ok-at.at c.args.taken.now c.bit.result (shape_values c.args.body.now) (shape_values c.remove_value-thing.new.self) t c.bit.ensures c.remove_value-thing.ensures.values).1
