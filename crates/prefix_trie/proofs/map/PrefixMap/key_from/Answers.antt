use Rattle.std.proofs.Common.{◌∙◌, sym, subst, IsSome}
use Rattle.std.specs.FinMap.{get}
use Rattle.trie_core.specs.Bits.{is_from}
use Rattle.prefix_trie.proofs.Lent.{first_within, first_stored}
use Rattle.prefix_trie.proofs.map.PrefixMap.key_from.Goals as goal

pub returns-in-Some-clause-stored : goal.returns-in-Some-clause-stored
returns-in-Some-clause-stored g c =
    let m = c.walked.result.now.entries in
    let p = is_from c.args.path c.args.inclusive in
    let e = sym c.onwards.ensures ∙ c.in-Some.ensures.steps in (
      first_within 128 p m c.in-Some.key c.in-Some.field-0-1.now c.next.new.self.0 e c.walked.ensures.within,
      first_within g.P.R.Key.width p m c.in-Some.key c.in-Some.field-0-1.now c.next.new.self.0 e c.walked.ensures.keys,
      subst (λ m. IsSome (get m c.in-Some.key)) c.walked.ensures.map (first_stored p m c.in-Some.key c.in-Some.field-0-1.now c.next.new.self.0 e),
    )
