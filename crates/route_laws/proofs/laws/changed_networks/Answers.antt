use Rattle.route_laws.proofs.Networks.{changed_by_choices, blocks_of_choices, choices_have_one_hop}
use Rattle.route_laws.proofs.laws.changed_networks.Goals as goal

pub returns : goal.returns
returns c = record {
  changed = λ T b cs ok okb are x a. changed_by_choices T ok b okb cs are x a;
  blocks = λ T b cs bs ok okb are t. blocks_of_choices T ok b okb cs bs are t;
  one_hop = λ T b cs ok okb are d i x h. choices_have_one_hop T ok b okb cs are d i x h;
}
