use Rattle.std.proofs.Common.{◌≡◌, ◌∙◌, ◌+◌, ◌-◌, ◌^◌, ◌<◌, ap, sym, subst, Some, None, false, length, MatchOption, option_map, pow_pos, arith}
use Rattle.std.specs.FinMap.{entries, entries_sorted}
use Rattle.ipnet_blocks.specs.BitStrings.{begins}
use Rattle.ipnet_addr.proofs.Shifts.{whole}
use Rattle.trie_core.specs.InnerWalks.{KeysWithin}
use Rattle.prefix_trie.specs.Covered.{covered_count}
use Rattle.prefix_trie.proofs.Covered.{IsCounting, start, skip_if, outside_if, add, full, done, count_most}
use Rattle.prefix_trie.proofs.map.PrefixMap.address_count.Goals as goal

pub walk-init : goal.walk-init
walk-init g c =
    let w = g.P.R.Key.width in
    let m = c.args.self.now.entries in
    let k = subst (λ n. KeysWithin w (entries n)) c.walked.ensures.map c.walked.ensures.keys in
    let s = subst (λ es. IsCounting w (covered_count w m) (2 ^ w - 1) None es) (sym (c.new-walk.ensures ∙ ap entries c.walked.ensures.map)) (start w (entries m) (entries_sorted m) k) in
    record { counting = subst (λ n. IsCounting w (covered_count w m) n None c.new-walk.result.0) (sym (whole w c.width-width.result c.width-width.ensures.value c.width-width.ensures.within)) s; last_fits = tt }

pub walk-preserved-then-is_inside : goal.walk-preserved-then-is_inside
walk-preserved-then-is_inside g c =
    let bits = g.P.Prefix.bits in
    let w = g.P.R.Key.width in
    let m = subst (λ k. MatchOption c.walk.last (c.is_inside.result ≡ false) (λ b. c.is_inside.result ≡ begins (bits b) k)) c.prefix_of-prefix.ensures.bits c.is_inside.ensures in
    let i = subst (λ es. IsCounting w (covered_count w c.args.self.now.entries) c.walk.left (option_map bits c.walk.last) es) c.in-Some.ensures.steps c.walk.invariant.counting in
    record { counting = skip_if bits c.walk.last c.is_inside.result m c.if-is_inside.true i; last_fits = c.walk.invariant.last_fits }

pub returns-in_err-left : goal.returns-in_err-left
returns-in_err-left g c =
    let bits = g.P.Prefix.bits in
    let w = g.P.R.Key.width in
    let t = covered_count w c.args.self.now.entries in
    let m = subst (λ k. MatchOption c.walk.last (c.is_inside.result ≡ false) (λ b. c.is_inside.result ≡ begins (bits b) k)) c.prefix_of-prefix.ensures.bits c.is_inside.ensures in
    let i = subst (λ es. IsCounting w t c.walk.left (option_map bits c.walk.last) es) c.in-Some.ensures.steps c.walk.invariant.counting in
    let o = outside_if bits c.in-Some.path c.walk.last c.is_inside.result m c.if-is_inside.false in
    let h : c.walk.left < 2 ^ (w - length c.in-Some.path) = subst (λ n. c.walk.left < 2 ^ n) ((λ j. c.width-width.ensures.value j - c.len.ensures j)) c.in_err-left.ensures in
    subst (λ r. MatchOption r (t ≡ 2 ^ w) (λ n. (g.P.R.Key.number n ≡ t) × (t < 2 ^ w))) (sym c.from_residual.ensures) (full i o h (count_most w _))

pub walk-preserved : goal.walk-preserved
walk-preserved g c =
    let bits = g.P.Prefix.bits in
    let w = g.P.R.Key.width in
    let t = covered_count w c.args.self.now.entries in
    let m = subst (λ k. MatchOption c.walk.last (c.is_inside.result ≡ false) (λ b. c.is_inside.result ≡ begins (bits b) k)) c.prefix_of-prefix.ensures.bits c.is_inside.ensures in
    let i = subst (λ es. IsCounting w t c.walk.left (option_map bits c.walk.last) es) c.in-Some.ensures.steps c.walk.invariant.counting in
    let o = outside_if bits c.in-Some.path c.walk.last c.is_inside.result m c.if-is_inside.false in
    let h : c.in_ok-left.left + 2 ^ (w - length c.in-Some.path) ≡ c.walk.left = subst (λ n. c.in_ok-left.left + 2 ^ n ≡ c.walk.left) ((λ j. c.width-width.ensures.value j - c.len.ensures j)) c.in_ok-left.ensures in
    record { counting = subst (λ k. IsCounting w t c.in_ok-left.left (Some k) c.next.new.self.0) (sym c.prefix_of-prefix.ensures.bits) (add c.in_ok-left.left i o h); last_fits = c.prefix_of-prefix.ensures.fits }

pub overflow_sub-whole-2 : goal.overflow_sub-whole-2
overflow_sub-whole-2 g c = omega (arith, whole g.P.R.Key.width c.width-width.result c.width-width.ensures.value c.width-width.ensures.within, c.walk.invariant.counting.below)

pub from_bits-requires : goal.from_bits-requires
from_bits-requires g c = omega (arith, whole g.P.R.Key.width c.width-width.result c.width-width.ensures.value c.width-width.ensures.within, pow_pos g.P.R.Key.width)

pub returns : goal.returns
returns g c =
    let w = g.P.R.Key.width in
    let t = done c.walk.invariant.counting c.in_default.ensures.steps.0 in
    let e = whole w c.width-width.result c.width-width.ensures.value c.width-width.ensures.within in
    let n = ap g.P.R.Key.number c.from_bits.ensures ∙ g.met.P.R.Key.numbered _ (omega (arith, e, pow_pos w)) in
    (omega (arith, n, e, t, c.walk.invariant.counting.below), omega (arith, t))
