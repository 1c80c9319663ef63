use Rattle.std.proofs.Common.{◌∷◌, [], refl}
use Rattle.least_table.specs.InnerPacked.{steps_in}
use Rattle.least_table.proofs.Lowers.{piece_planned}
use Rattle.least_table.proofs.planner.Planner.push.Goals as goal

pub begin-requires-clause-after : goal.begin-requires-clause-after
begin-requires-clause-after g c = (c.requires.after.0, c.args.hop, c.requires.after.1, rw c.path_of-path.ensures.value c.requires.after.2)

pub push_leaf-requires : goal.push_leaf-requires
push_leaf-requires g c = (c.in_ok-begin.ensures c.requires.after.0 c.args.hop c.requires.after.1 (rw c.path_of-path.ensures.value c.requires.after.2)).1

pub returns : goal.returns
returns g c = λ ps h d.
    let z = c.path_of-path.result in
    let steps = steps_in c.begin.new.self.steps in
    let b = c.in_ok-begin.ensures ps c.args.hop h (rw c.path_of-path.ensures.value d) in
    let grown = c.in_ok-push_leaf.ensures in
    rw (← c.path_of-path.ensures.value) (record {
      others = ps;
      hop = c.args.hop;
      last = refl;
      inside = c.path_of-path.ensures.width;
      planned = record {
        others = ps;
        pieces = (z, c.args.hop) ∷ [];
        before = steps;
        all = refl;
        lower = b.0;
        plans = piece_planned g.P.R.Key.width z c.args.hop steps c.push_leaf.new.self grown.steps grown.whole;
      };
    })
