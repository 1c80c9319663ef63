use Rattle.std.proofs.Common.{refl}
use Rattle.route_laws.proofs.Alterations.{added_change, added_number, changed_by, blocks_by, left_change, governed_after}
use Rattle.route_laws.proofs.laws.changed.Goals as goal

pub returns : goal.returns
returns c = record {
  add = λ M r m ok hop. changed_by M _ r.block m ok (added_change M m r ok hop) _ (added_number M m r ok hop);
  del = λ M n m ok. changed_by M _ n m ok (left_change M m n ok) _ refl;
  blocks_of_add = λ M r bs m ok hop. blocks_by M _ r.block m ok (added_change M m r ok hop) _ (added_number M m r ok hop) bs;
  blocks_of_del = λ M n bs m ok. blocks_by M _ n m ok (left_change M m n ok) _ refl bs;
  governed = governed_after;
}
