use Rattle.route_choices.proofs.ChoiceLists.{none_of, with_are}
use Rattle.route_laws.proofs.Networks.{at_are, with_choices_is, del_is, at_changed, at_other, same_tables, del_none, restored, emptied}
use Rattle.route_laws.proofs.laws.networks.Goals as goal

pub returns : goal.returns
returns c = record {
  stays = λ T b ok okb. (
    (λ c hop pref e. with_choices_is T ok b _ okb (with_are _ (at_are T ok b) c hop pref e)),
    (λ h. del_is T ok b h okb),
  );
  after = λ T b cs ok okb are. (at_changed T ok b okb cs are, λ d apart. at_other T ok b okb cs are d apart);
  same = same_tables;
  none = λ T b h ok okb e. del_none T b h ok okb (none_of _ h e);
  restored = restored;
  emptied = λ T b ok okb. emptied T b ok okb;
}
