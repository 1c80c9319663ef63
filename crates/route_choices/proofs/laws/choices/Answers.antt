use Rattle.ipnet_addr.proofs.Ascending.{In-from_Contains, Contains-from_In}
use Rattle.route_choices.specs.Choices.{choices_without}
use Rattle.route_choices.proofs.Preferences.{strict, total}
use Rattle.route_choices.proofs.ChoiceLists.{best_is, is_best, put_is, left_back, left_other, with_are, without_are, same_choices}
use Rattle.route_choices.proofs.laws.choices.Goals as goal

pub returns : goal.returns
returns c = record {
  best = λ cs c ok. ((λ e. best_is cs ok c e), (λ b. is_best cs ok c b));
  one = λ c d. ((λ apart. total c d apart), (λ p q. strict c d p q));
  with_one = put_is;
  without_one = λ cs h d. (
    (λ i. let t = left_back cs h d (In-from_Contains (choices_without cs h) d i) in (Contains-from_In cs d t.0, t.1)),
    (λ t. Contains-from_In (choices_without cs h) d (left_other cs h d (In-from_Contains cs d t.0) t.1)),
  );
  stay = λ cs ok. ((λ c hop pref e. with_are cs ok c hop pref e), (λ h. without_are cs ok h));
  same = λ cs ds ok okd f. same_choices cs ds ok okd (λ d i. In-from_Contains ds d ((f d).0 (Contains-from_In cs d i))) (λ d i. In-from_Contains cs d ((f d).1 (Contains-from_In ds d i)));
}
