use Rattle.std.proofs.Common.{◌≡◌, ◌+◌, ℕ, Bool, List, true, false, cond, ◌∙◌, sym}
use Rattle.trie_core.specs.InnerPlaces.{place_of}
use Rattle.trie_core.proofs.Frames.{onwards_part}
use Rattle.trie_core.proofs.lent_frame.LentFrame.onwards.Goals.{then-inclusive, else-inclusive}
use Rattle.trie_core.proofs.lent_frame.LentFrame.onwards.Goals as goal

from_place : (q : List Bool) {place from : ℕ} (i b : Bool) → place ≡ place_of q → i ≡ b → from ≡ cond b place (place + 1) → from ≡ cond i (place_of q) (place_of q + 1)
from_place q {place} {from} i b e f d = d ∙ (λ j. cond (sym f j) (e j) (e j + 1))

pub invariant_of-result : goal.invariant_of-result
invariant_of-result g c =
    let q = c.args.path.now in
    let from : c.if-inclusive.from ≡ cond c.args.inclusive (place_of q) (place_of q + 1) = elim c.if-inclusive.branch [ then-inclusive w ↦ from_place q c.args.inclusive true c.place-place.ensures.value w.if-inclusive.true w.from-is | else-inclusive w ↦ from_place q c.args.inclusive false c.place-place.ensures.value w.if-inclusive.false w.from-is ] in
    (onwards_part q c.args.inclusive c.parts-values.ensures c.requires.short from c.five.ensures.value c.from.ensures c.from-2.ensures).order

pub returns-clause-rest : goal.returns-clause-rest
returns-clause-rest g c =
    let q = c.args.path.now in
    let from : c.if-inclusive.from ≡ cond c.args.inclusive (place_of q) (place_of q + 1) = elim c.if-inclusive.branch [ then-inclusive w ↦ from_place q c.args.inclusive true c.place-place.ensures.value w.if-inclusive.true w.from-is | else-inclusive w ↦ from_place q c.args.inclusive false c.place-place.ensures.value w.if-inclusive.false w.from-is ] in
    (onwards_part q c.args.inclusive c.parts-values.ensures c.requires.short from c.five.ensures.value c.from.ensures c.from-2.ensures).rest

pub returns-clause-levels : goal.returns-clause-levels
returns-clause-levels g c =
    let q = c.args.path.now in
    let from : c.if-inclusive.from ≡ cond c.args.inclusive (place_of q) (place_of q + 1) = elim c.if-inclusive.branch [ then-inclusive w ↦ from_place q c.args.inclusive true c.place-place.ensures.value w.if-inclusive.true w.from-is | else-inclusive w ↦ from_place q c.args.inclusive false c.place-place.ensures.value w.if-inclusive.false w.from-is ] in
    (onwards_part q c.args.inclusive c.parts-values.ensures c.requires.short from c.five.ensures.value c.from.ensures c.from-2.ensures).levels
