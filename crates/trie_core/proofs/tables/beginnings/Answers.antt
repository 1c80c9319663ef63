use Rattle.std.proofs.Common.{◌+◌, ◌%◌, ◌^◌, get_or, subst}
use Rattle.trie_core.specs.InnerPlaces.{place_of, IsBeginMask}
use Rattle.trie_core.proofs.PlaceTables.{masks, masks_below, long_mask, short_mask}
use Rattle.trie_core.proofs.tables.beginnings.Goals as goal

pub returns-clause-long : goal.returns-clause-long
returns-clause-long c = λ q l e. subst (λ n. IsBeginMask q (get_or masks n 0)) e (long_mask q l)

pub returns-clause-short : goal.returns-clause-short
returns-clause-short c = λ q l e. subst (λ n. IsBeginMask q (get_or masks n 0 % 2 ^ (place_of q + 1))) e (short_mask q l)

pub returns-clause-below : goal.returns-clause-below
returns-clause-below c = masks_below c.args.five
