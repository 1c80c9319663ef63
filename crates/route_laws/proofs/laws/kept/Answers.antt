use Rattle.route_laws.proofs.Alterations.{added_change, family_apart, left_change, restored}
use Rattle.route_laws.proofs.laws.kept.Goals as goal

pub returns : goal.returns
returns c = record {
  restored = λ M r m ok hop. restored M r m;
  other_after_add = λ M r m ok hop. family_apart M _ r.block m ok (added_change M m r ok hop);
  other_after_del = λ M n m ok. family_apart M _ n m ok (left_change M m n ok);
}
