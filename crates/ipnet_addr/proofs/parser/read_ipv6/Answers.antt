use Rattle.std.proofs.Common.{◌≡◌, ℕ, ◌+◌, ◌-◌, ◌≤◌, ◌==◌, true, false, List, ◌++◌, length, take, drop, replicate, Some, sym, ap, ◌∙◌, arith, rules, append-nil, take_all, take-add, length-take-le, ne_eqb}
use Rattle.std.proofs.lemmas.List.{drop-replicate, take-replicate, drop_all, take-append-le}
use Rattle.std.proofs.lemmas.Slice.{put_mid-paste}
use borrow.Rule.Slice.PartMut.{put_mid}
use Rattle.std.proofs.lemmas.Grind.{common_steps}
use Rattle.ipnet_addr.specs.AddressReader.{read_ipv6, read_units}
use Rattle.ipnet_addr.proofs.parser.read_ipv6.Goals as goal

pub returns-then-head_len-eq8 : goal.returns-then-head_len-eq8
unfolding read_ipv6
returns-then-head_len-eq8 c = first_of (search rules, grind (arith, common_steps))

pub returns-then-ends_in_ipv4 : goal.returns-then-ends_in_ipv4
unfolding read_ipv6
returns-then-ends_in_ipv4 c = first_of (search rules, grind (arith, common_steps))

pub returns-in_err-read_byte : goal.returns-in_err-read_byte
unfolding read_ipv6
returns-in_err-read_byte c = first_of (search rules, grind (arith, common_steps))

pub returns-in_err-s : goal.returns-in_err-s
unfolding read_ipv6
returns-in_err-s c = first_of (search rules, grind (arith, common_steps))

-- the tail lands at the end, and the zeros before it stay
placed : (head tail copy : List ℕ) (h t : ℕ) → length head ≡ 8 → h + t ≤ 8 → drop h head ≡ drop h (replicate 8 0) → copy ≡ tail → length tail ≡ t → put_mid (8 - t) (8 - (8 - t)) head copy ≡ take h head ++ replicate (8 - length (take h head) - length tail) 0 ++ tail
placed head tail copy h t eight room zeros same len =
    let gap = 8 - h - t in
    let front : 8 - t ≡ h + gap = omega arith in
    let kept : take gap (drop h head) ≡ replicate gap 0 = rw (zeros, drop-replicate {X = ℕ} h 8 0) (take-replicate gap (8 - h) 0 (omega arith)) in
    let pasted = put_mid-paste (8 - t) (8 - (8 - t)) head copy tail t same (omega arith) (sym len) in
    let nothing = drop_all (8 - t + t) head (omega arith) in
    pasted ∙ rw (nothing, append-nil, take_all t tail (omega arith), length-take-le h head (omega arith), len, front, take-add h gap head, kept)

pub returns : goal.returns
unfolding read_ipv6
returns c =
    let head = c.read_units-head_len in
    let tail = c.read_units-tail_len in
    let h = head.result.0 in
    let t = tail.result.0 in
    let len_h : length (take h head.new.units) ≡ h = length-take-le _ _ (omega arith) in
    let part : length (take (8 - h) (replicate {A = ℕ} 8 0)) ≡ 8 - h = length-take-le _ _ (omega arith) in
    let room : t ≤ length (take (8 - h) (replicate {A = ℕ} 8 0)) = tail.ensures.within in
    let some : h ≤ 7 = omega arith in
    let within : t ≤ length tail.new.units = omega (arith, tail.auto.units, tail.ensures.within) in
    let copy : c.copy_from_slice.new.self ≡ take t tail.new.units = c.copy_from_slice.ensures.after ∙ take-append-le t _ _ within in
    let put = placed head.new.units _ _ h t (omega arith) (omega arith) head.ensures.others copy (length-take-le _ _ within) in
    let read_head : read_units 8 true c.args.s.now ≡ (take h head.new.units, head.result.1, head.result.2.now) = head.ensures.value in
    let read_tail : read_units (8 - length (take h head.new.units)) true c.in_ok-s.s.now ≡ (take t tail.new.units, tail.result.1, tail.result.2.now) = rw (len_h, ← part) tail.ensures.value in
    let short : (length (take h head.new.units) == 8) ≡ false = rw len_h (ne_eqb _ _ c.if-head_len-eq8.false) in
    rw (read_head, short, c.if-ends_in_ipv4.false, ← c.in_ok-read_byte.ensures, ← c.in_ok-s.ensures, read_tail)
    (ap (λ xs. Some (xs, tail.result.2.now)) (c.from_segments-2.ensures ∙ put))

pub slice_bounds-tail-end-2 : goal.slice_bounds-tail-end-2
slice_bounds-tail-end-2 c = grind (arith, common_steps)

pub slice_bounds-copy_from_slice-end : goal.slice_bounds-copy_from_slice-end
slice_bounds-copy_from_slice-end c = grind (arith, common_steps)

pub copy_from_slice-requires : goal.copy_from_slice-requires
copy_from_slice-requires c = grind (arith, common_steps)
