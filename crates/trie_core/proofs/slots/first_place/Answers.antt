use Rattle.std.proofs.Common.{w32, arith}
use Rattle.std.proofs.lemmas.Nat.Bits.{bit_at-trailing_zeros}
use Rattle.trie_core.proofs.slots.first_place.Goals as goal

pub returns : goal.returns
returns c = let t = bit_at-trailing_zeros w32 c.args.taken c.requires (omega arith) in record { within = t.0; taken = t.1; under = t.2 }
