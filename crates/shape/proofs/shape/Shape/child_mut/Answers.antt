use Rattle.std.proofs.Common.{refl, ap, ◌∙◌, slice_index_or}
use Rattle.short_vec.specs.Lists.{short_items}
use Rattle.shape.proofs.shape.Shape.child_mut.Goals as goal

pub returns-in-Children : goal.returns-in-Children
returns-in-Children g c =
    rw c.in-Children.is (
      (refl, λ w. refl),
      record {
        writes_back = tt;
        value = c.index_mut.ensures.value
            ∙ ap (λ l. slice_index_or (short_items l) c.args.at c.index_mut.result.now) c.in-Children.children-is;
      },
    )

pub returns-in-Both : goal.returns-in-Both
returns-in-Both g c =
    rw c.in-Both.is (
      (refl, λ w. refl),
      record {
        writes_back = tt;
        value = c.index_mut-in-Both.ensures.value
            ∙ ap (λ l. slice_index_or (short_items l) c.args.at c.index_mut-in-Both.result.now) c.in-Both.children-is;
      },
    )
