use Rattle.std.proofs.Common.{◌≡◌, ℕ, suc, ◌+◌, ◌-◌, ◌<◌, ◌≤◌, ◌∷◌, [], ◌++◌, List, sym, ◌∙◌, ap, subst, arith, length, take, drop, get_or, All}
use Rattle.std.specs.List.Sorted.{IsPermutation, IsNonDecreasingBy}
use Rattle.std.proofs.lemmas.List.{take_more, take_all, get_or_default}
use Rattle.std.proofs.lemmas.List.Sorted.{All-permutation}
use Rattle.ipnet_blocks.specs.declared.aggregate.Span.{Span}
use Rattle.ipnet_blocks.specs.InnerSpans.{HasNumber}
use Rattle.ipnet_blocks.proofs.Joins.{join_one, join_more, join_next, joined_permutation, split_is}
use Rattle.ipnet_blocks.proofs.aggregate.joined.Goals.{then-saturating_sub-open, else-saturating_sub-open+in_ok-push}
use Rattle.ipnet_blocks.proofs.aggregate.joined.Goals as goal

abbrev zeros : Span
zeros = record { first = 0; last = 0 }

-- the sorted spans by their first one
record Sorted (given : List Span) (head : Span) (rest : List Span) : Type 0 where
  permutation : IsPermutation given (head ∷ rest)
  order : (j k : ℕ) (e d : Span) → j ≤ k → k < length rest → (get_or rest j e).first ≤ (get_or rest k d).first
  after_head : (k : ℕ) (d : Span) → k < length rest → head.first ≤ (get_or rest k d).first
  head_has : HasNumber head
  rest_has : (k : ℕ) (d : Span) → k < length rest → HasNumber (get_or rest k d)

sorted_is : (given sorted items : List Span) → All HasNumber given → IsPermutation given sorted → IsNonDecreasingBy (λ (s : Span). s.first) sorted → items ≡ sorted → (d : Span) → 0 < length items → Sorted given (get_or items 0 d) (take (length items - 1) (drop 1 items))
sorted_is given sorted items has p up same d some =
    let rest = take (length items - 1) (drop 1 items) in
    let whole = sym same ∙ split_is items d some in
    let all = subst (All HasNumber) whole (All-permutation HasNumber given sorted p has) in
    let rise = subst (IsNonDecreasingBy (λ (s : Span). s.first)) whole up in
    record {
      permutation = subst (IsPermutation given) whole p;
      order = λ j k e e₂ l h.
          let one : (get_or rest j e).first ≡ (get_or rest j e₂).first = ap (λ (s : Span). s.first) (get_or_default rest j e e₂ (omega arith)) in
          let two : (get_or rest j e₂).first ≤ (get_or rest k e₂).first = rise (suc j) (suc k) e₂ (omega arith) (omega arith) in
          omega arith;
      after_head = λ k e h. rise 0 (suc k) e (omega arith) (omega arith);
      head_has = all 0 d (omega arith);
      rest_has = λ k e h. all (suc k) e (omega arith);
    }

pub loop-span-init : goal.loop-span-init
loop-span-init c =
    let h = sorted_is _ _ _ c.requires c.sorted-spans.ensures.permutation c.sorted-spans.ensures.order c.as_slice.ensures.value zeros c.in-len1-up.len_at_least in
    record {
      so_far = rw c.new-joined.ensures.items (join_one _ h.head_has);
      later = λ k d l m. h.after_head k d m;
    }

pub loop-span-preserved : goal.loop-span-preserved
loop-span-preserved c =
    let h = sorted_is _ _ _ c.requires c.sorted-spans.ensures.permutation c.sorted-spans.ensures.order c.as_slice.ensures.value zeros c.in-len1-up.len_at_least in
    let items = c.as_slice.result.now in
    let rest = take (length items - 1) (drop 1 items) in
    let i = c.loop-span.span-index in
    let n = get_or rest i zeros in
    let lt = c.loop-span-test.true in
    let more : take (i + 1) rest ≡ take i rest ++ n ∷ [] = take_more rest i zeros lt in
    let near = c.saturating_sub.ensures in
    let low = c.loop-span.invariant.later i zeros (omega arith) lt in
    elim c.if-saturating_sub-open.branch [
      | then-saturating_sub-open w ↦
          let t = w.if-saturating_sub-open.true in
          let grown = join_more _ _ _ n c.loop-span.invariant.so_far (h.rest_has i zeros lt) low (omega arith) in
          record {
            so_far = rw (more, w.joined-is, w.open-is, w.max.ensures) grown;
            later = λ k d l m. rw w.open-is (c.loop-span.invariant.later k d (omega arith) m);
          }
      | else-saturating_sub-open+in_ok-push w ↦
          let f = w.if-saturating_sub-open.false in
          let grown = join_next _ _ _ n c.loop-span.invariant.so_far (h.rest_has i zeros lt) (omega arith) in
          record {
            so_far = rw (more, w.joined-is, w.open-is, w.in_ok-push.ensures.items) grown;
            later = λ k d l m. rw w.open-is (h.order i k zeros d (omega arith) m);
          }
    ]

pub returns : goal.returns
returns c =
    let h = sorted_is _ _ _ c.requires c.sorted-spans.ensures.permutation c.sorted-spans.ensures.order c.as_slice.ensures.value zeros c.in-len1-up.len_at_least in
    let items = c.as_slice.result.now in
    let rest = take (length items - 1) (drop 1 items) in
    let all : take c.loop-span.span-index rest ≡ rest = take_all c.loop-span.span-index rest (omega (arith, c.loop-span-test.false)) in
    joined_permutation _ _ _ h.permutation (rw c.in_ok-push-2.ensures.items (rw all at c.loop-span.invariant.so_far))
