use Rattle.route_laws.proofs.Matches.{cover_ascends, match_meets, match_from, governed_match}
use Rattle.route_laws.proofs.Flats.{governed_bound}
use Rattle.route_laws.proofs.laws.matches.Goals as goal

pub returns : goal.returns
returns c = record {
  longest = λ M n t p r. (match_meets M t n p r, match_from M t n p r);
  cover = λ M n t p. cover_ascends M t n p;
  governed = λ M n x t p a g. governed_match M t n p x a g;
  bound = governed_bound;
}
