use Rattle.std.proofs.Common.{◌∙◌, ap, length, refl}
use Rattle.prefix_trie.proofs.Rebuilt.{rebuilt}
use Rattle.prefix_trie.proofs.prefix.prefix_of.Goals as goal

pub from_bits-requires : goal.from_bits-requires
from_bits-requires g c = (rebuilt g.P.R.Key.width c.width-free.result c.to_bits.result 0 (length c.args.path.now) c.args.path.now c.width-free.ensures.value c.width-free.ensures.within refl c.requires c.to_bits.ensures.masked c.to_bits.ensures.bits).below

pub returns-clause-bits : goal.returns-clause-bits
returns-clause-bits g c =
    let r = rebuilt g.P.R.Key.width c.width-free.result c.to_bits.result (g.P.R.Key.number c.from_bits.result) c.len.result c.args.path.now c.width-free.ensures.value c.width-free.ensures.within c.len.ensures c.requires c.to_bits.ensures.masked c.to_bits.ensures.bits in
    c.from_repr_len.ensures.bits ∙ r.bits (ap g.P.R.Key.number c.from_bits.ensures ∙ g.met.P.R.Key.numbered _ r.below)

pub returns-clause-key : goal.returns-clause-key
returns-clause-key g c =
    let r = rebuilt g.P.R.Key.width c.width-free.result c.to_bits.result (g.P.R.Key.number c.from_bits.result) c.len.result c.args.path.now c.width-free.ensures.value c.width-free.ensures.within c.len.ensures c.requires c.to_bits.ensures.masked c.to_bits.ensures.bits in
    let z = (ap g.P.R.Key.number c.from_bits.ensures ∙ g.met.P.R.Key.numbered _ r.below) in
    c.from_repr_len.ensures.masked (r.masked z) ∙ ap g.P.Prefix.of_bits (r.bits z)
