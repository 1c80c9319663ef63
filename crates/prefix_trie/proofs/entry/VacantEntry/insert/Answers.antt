use Rattle.std.proofs.Common.{refl}
use Rattle.prefix_trie.proofs.Written.{spares_after, stored_after, written_over, value_after}
use Rattle.prefix_trie.proofs.entry.VacantEntry.insert.Goals as goal

pub value_mut-requires-clause-stored : goal.value_mut-requires-clause-stored
value_mut-requires-clause-stored g c = stored_after c.args.self.map.now.entries _ _ c.path_of-path.result c.args.value c.in-Ok.ensures.map c.path_of-path.ensures.value

pub returns-in-Ok : goal.returns-in-Ok
returns-in-Ok g c =
    let e = c.in-Ok.ensures.map in
    let f = c.path_of-path.ensures.value in (
      (refl, (λ w _. record { map = written_over c.args.self.map.now.entries _ _ c.path_of-path.result c.args.value e f w; spares = spares_after c.args.self.map.now (g.P.Prefix.bits c.args.self.key) _ c.in-Ok.ensures.spares c.in-Ok.ensures.kept }), tt),
      record {
        writes_back = tt;
        value = value_after c.args.self.map.now.entries _ _ c.path_of-path.result c.args.value e f _ c.value_mut.ensures.value;
        full = tt;
        value_returned = tt;
        absent = tt;
      },
    )
