use Rattle.std.proofs.Common.{rules, of_calls}
use Rattle.std.specs.FinMap.{entries}
use Rattle.prefix_trie.specs.Retain.{AnswersAtMember, TakesMember}
use Rattle.prefix_trie.proofs.Kept.{callable_by, keys_kept}
use Rattle.prefix_trie.proofs.set.PrefixSet.retain.Goals as goal

pub retain-requires : goal.retain-requires
retain-requires g c =
    callable_by _ (AnswersAtMember g.F.FnMut g.P.Prefix.fits g.P.Prefix.bits g.P.Prefix.of_bits) (λ s. s.0) (λ s e b t w. record { member = w.key; shows = (w.shows.0, w.shows.1, w.shows.2); called = let called = w.called in search rules }) _ (TakesMember g.F.FnMut g.P.Prefix.fits g.P.Prefix.bits g.P.Prefix.of_bits)
    (λ s e h key value b k f v. let h = h key b k f in search (rules, of_calls)) _ (entries c.self.inside.members.entries) (rw c.self.view_is c.requires)

pub returns-clause-kept : goal.returns-clause-kept
returns-clause-kept g c =
    rw (← c.self.view_is) (keys_kept _ (AnswersAtMember g.F.FnMut g.P.Prefix.fits g.P.Prefix.bits g.P.Prefix.of_bits) (λ s. s.0) (λ s e b t w. record { member = w.key; shows = (w.shows.0, w.shows.1, w.shows.2); called = let called = w.called in search rules }) _ (entries c.self.inside.members.entries) (entries c.retain.new.self.entries) c.retain.ensures.kept)
