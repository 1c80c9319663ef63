use Rattle.std.proofs.Common.{refl, sym, ap, ◌∙◌}
use Rattle.std.specs.FinMap.{get}
use Rattle.prefix_trie.proofs.Written.{still_stored, occupied_written, occupied_IsWritten}
use Rattle.prefix_trie.proofs.entry.OccupiedEntry.get_mut.Goals as goal

pub invariant_of-self-lent : goal.invariant_of-self-lent
invariant_of-self-lent g c w =
    let o = c.args.self.now in
    (o.fits, (still_stored o c.path_of-path.result w c.path_of-path.ensures.value, tt))

pub returns : goal.returns
returns g c =
    let o = c.args.self.now in
    let e = c.path_of-path.ensures.value in (
      (refl, λ w. occupied_written o c.path_of-path.result e w _ _),
      record {
        writes_back = tt;
        value = ap (get o.map.now.entries) (sym e) ∙ c.value_mut.ensures.value;
        written = occupied_IsWritten o;
      },
    )
