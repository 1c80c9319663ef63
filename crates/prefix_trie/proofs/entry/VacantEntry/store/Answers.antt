use Rattle.std.proofs.Common.{◌∙◌, sym, take_all, arith}
use Rattle.prefix_trie.proofs.Written.{stored_after, stored_at}
use Rattle.prefix_trie.proofs.entry.VacantEntry.store.Goals as goal

pub invariant_of-self-2-clause-found : goal.invariant_of-self-2-clause-found
invariant_of-self-2-clause-found g c =
    let same = c.truncated-key.ensures.bits ∙ take_all c.prefix_len.result (g.P.Prefix.bits c.args.self.now.key) (omega (arith, c.prefix_len.ensures)) in
    stored_after c.args.self.now.map.now.entries _ _ _ c.args.value c.in_ok-old.ensures.map (sym same)

pub returns-clause-stored : goal.returns-clause-stored
returns-clause-stored g c =
    let same = c.truncated-key.ensures.bits ∙ take_all c.prefix_len.result (g.P.Prefix.bits c.args.self.now.key) (omega (arith, c.prefix_len.ensures)) in
    stored_at c.args.self.now.map.now _ _ c.insert.new.self c.args.value same c.in_ok-old.ensures.map c.in_ok-old.ensures.spares c.in_ok-old.ensures.kept
