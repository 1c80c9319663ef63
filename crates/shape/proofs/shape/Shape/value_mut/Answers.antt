use Rattle.std.proofs.Common.{refl, ap, ◌∙◌, slice_index_or}
use Rattle.short_vec.specs.Lists.{short_items}
use Rattle.short_vec.specs.Lends.{short_with_item}
use Rattle.shape.specs.declared.shape.Shape.TheVariants.{Both}
use Rattle.shape.proofs.shape.Shape.value_mut.Goals as goal

pub returns-in-Values : goal.returns-in-Values
returns-in-Values g c =
    rw c.in-Values.is (
      (refl, λ w. refl),
      record {
        writes_back = tt;
        value = c.index_mut.ensures.value
            ∙ ap (λ l. slice_index_or (short_items l) c.args.at c.index_mut.result.now) c.in-Values.values-is;
      },
    )

pub returns-in-Both : goal.returns-in-Both
returns-in-Both g c =
    let e = c.deref_mut.ensures.value ∙ ap (λ b. b.value) c.in-Both.values-is in
    rw c.in-Both.is (
      (
        refl,
        λ w. λ i. Both c.in-Both.field-0
            (record c.in-Both.values { alloc = (c.in-Both.values-is i).alloc; value = short_with_item (e i) c.args.at w }),
      ),
      record {
        writes_back = tt;
        value = c.index_mut-in-Both.ensures.value
            ∙ ap (λ l. slice_index_or (short_items l) c.args.at c.index_mut-in-Both.result.now) e;
      },
    )
