use Rattle.std.proofs.Common.{◌≡◌, ◌∙◌, sym, ap, true, cond, refl}
use Rattle.std.specs.FinMap.{entries, remove}
use Rattle.std.specs.FinMap.Entries.{where_key}
use Rattle.trie_core.specs.Bits.{is_from}
use Rattle.ipnet_blocks.specs.BitStrings.{bits_cmp}
use Rattle.prefix_trie.specs.Maps.{first_key}
use Rattle.prefix_trie.specs.Retain.{TakesAt}
use Rattle.prefix_trie.proofs.Lent.{all_from}
use Rattle.prefix_trie.proofs.Asked.{lengths, asked_start, asked_next, asked_stored, asked_more}
use Rattle.prefix_trie.proofs.map.PrefixMap.take_refused.Goals.{then-not-f, else-not-f}
use Rattle.prefix_trie.proofs.map.PrefixMap.take_refused.Goals as goal

pub entry-init : goal.entry-init
entry-init g c = record {
  within = lengths _ _ _ c.key_from-next.ensures.stored;
  asked = asked_start _ c.args.f c.args.self.now.entries (c.key_from-next.ensures.key ∙ ap (λ s. first_key (where_key bits_cmp (is_from s true) (entries c.args.self.now.entries))) c.new.ensures ∙ ap first_key (all_from (entries c.args.self.now.entries)));
}

pub unreachable-requires : goal.unreachable-requires
unreachable-requires g c = asked_stored _ c.in-Some.path _ c.entry.invariant.asked c.in-Some.is c.prefix_of-prefix.ensures.bits c.in_default-get.ensures

pub f-requires : goal.f-requires
f-requires g c = asked_next _ (TakesAt g.F.FnMut g.P.Prefix.fits g.P.Prefix.bits g.P.Prefix.of_bits) c.in-Some.path _ c.in-Some-get.value.now c.requires c.entry.invariant.asked c.in-Some.is c.prefix_of-prefix.ensures.bits c.in-Some-get.ensures _ _ c.prefix_of-prefix.ensures.bits c.prefix_of-prefix.ensures.key c.prefix_of-prefix.ensures.fits refl

pub entry-smaller : goal.entry-smaller
entry-smaller g c =
    let bits = g.P.Prefix.bits c.prefix_of-prefix.result in
    let n = c.entry.self.entries in
    let after : c.if-not-f.self.entries ≡ cond c.f.result c.entry.self.entries (remove c.entry.self.entries (g.P.Prefix.bits c.prefix_of-prefix.result)) = elim c.if-not-f.branch [
      | then-not-f w ↦ ap (λ m. m.entries) w.self-is ∙ w.remove_keep_tree.ensures.map ∙ ap (λ b. cond b n (remove n bits)) (sym w.if-not-f.true)
      | else-not-f w ↦ ap (λ m. m.entries) w.self-is ∙ ap (λ b. cond b n (remove n bits)) (sym w.if-not-f.false)
    ] in
    (asked_more _ c.in-Some.path bits c.in-Some-get.value.now c.f.result c.entry.invariant.asked c.in-Some.is c.prefix_of-prefix.ensures.bits c.in-Some-get.ensures (record { key = _; value = _; shows = (c.prefix_of-prefix.ensures.bits, c.prefix_of-prefix.ensures.key, c.prefix_of-prefix.ensures.fits, refl); called = c.f.ensures }) c.key_from-next-in-Some.ensures.key after).1

pub entry-preserved : goal.entry-preserved
entry-preserved g c =
    let bits = g.P.Prefix.bits c.prefix_of-prefix.result in
    let n = c.entry.self.entries in
    let after : c.if-not-f.self.entries ≡ cond c.f.result c.entry.self.entries (remove c.entry.self.entries (g.P.Prefix.bits c.prefix_of-prefix.result)) = elim c.if-not-f.branch [
      | then-not-f w ↦ ap (λ m. m.entries) w.self-is ∙ w.remove_keep_tree.ensures.map ∙ ap (λ b. cond b n (remove n bits)) (sym w.if-not-f.true)
      | else-not-f w ↦ ap (λ m. m.entries) w.self-is ∙ ap (λ b. cond b n (remove n bits)) (sym w.if-not-f.false)
    ] in
    record {
      within = lengths _ _ _ c.key_from-next-in-Some.ensures.stored;
      asked = (asked_more _ c.in-Some.path bits c.in-Some-get.value.now c.f.result c.entry.invariant.asked c.in-Some.is c.prefix_of-prefix.ensures.bits c.in-Some-get.ensures (record { key = _; value = _; shows = (c.prefix_of-prefix.ensures.bits, c.prefix_of-prefix.ensures.key, c.prefix_of-prefix.ensures.fits, refl); called = c.f.ensures }) c.key_from-next-in-Some.ensures.key after).0;
    }
