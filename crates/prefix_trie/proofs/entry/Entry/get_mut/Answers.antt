use Rattle.std.proofs.Common.{◌∙◌, refl, sym}
use Rattle.prefix_trie.proofs.Written.{stored_after}
use Rattle.prefix_trie.proofs.entry.Entry.get_mut.Goals as goal

pub invariant_of-entry-lent : goal.invariant_of-entry-lent
invariant_of-entry-lent g c = λ w.
    let e = c.in-Vacant.entry in (
      e.fits,
      (stored_after e.map.now.entries c.path_of-path.result _ _ w refl (sym c.path_of-path.ensures.value) ∙ sym c.if-entry.true, tt),
    )
