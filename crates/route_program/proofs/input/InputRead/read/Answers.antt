use Rattle.std.proofs.Common.{◌≡◌, ◌-◌, ◌<◌, ◌≤◌, [], ◌++◌, length, take, drop, sym, ap, ap₂, append-nil, ◌∙◌, take-append-drop, take-take, arith}
use Rattle.std.proofs.KnownBytes.{Consumes-nil}
use Rattle.route_program.proofs.Kept.{at_end, handed, none_left, some_left, nothing_kept, left_after, copied}
use Rattle.route_program.proofs.input.InputRead.read.Goals as goal

pub returns-then-is_empty-clause-bytes : goal.returns-then-is_empty-clause-bytes
returns-then-is_empty-clause-bytes g c =
    let given = take c.in_ok-count.count c.read.new.buf in
    let whole : c.in_ok-count.count ≡ length given = c.in_ok-count.ensures.bound.1 in
    let short : c.keep.result ≤ c.in_ok-count.count = omega (arith, whole, c.keep.ensures.within) in
    let none : drop c.args.self.now.start c.args.self.now.kept.items ≡ [] =
    sym c.left-left.ensures ∙ none_left c.left-left.result.now (sym c.is_empty.ensures ∙ c.if-is_empty.true) in
    rw c.keep.ensures.device (
      handed _ _ _ given (take c.keep.result c.read.new.buf) _
          (ap (λ l. l ++ given) none ∙ sym (take-append-drop c.keep.result given)
          ∙ simp (take-take c.keep.result c.in_ok-count.count c.read.new.buf short, c.keep.ensures.kept))
          c.in_ok-count.ensures.bytes.0,
      λ zero room. let e = nothing_kept c.keep.result given c.keep.ensures.some zero in
          at_end _ _ (c.keep.ensures.kept ∙ e.1) (c.in_ok-count.ensures.bytes.1 (whole ∙ ap length e.0) room),
    )

pub returns-clause-bytes : goal.returns-clause-bytes
returns-clause-bytes g c =
    let left = c.left-left.result.now in
    let n = c.min-count.result in
    let some : 0 < length left = some_left left (sym c.is_empty.ensures ∙ c.if-is_empty.false) in
    let short : n ≤ length left = omega (arith, c.min-count.ensures) in
    let room : n ≤ length c.args.buf.now = omega (arith, c.min-count.ensures) in
    let copy = copied n left c.copy_from_slice.new.self _ c.copy_from_slice.ensures.after short in
    let rest = ap (λ k. drop (k - (length left - n)) c.args.self.now.kept.items) c.len.ensures.value
    ∙ left_after c.args.self.now.start n c.args.self.now.kept.items left c.left-left.ensures short some in (
      handed _ _ _ [] _ _
          (append-nil _ ∙ sym c.left-left.ensures ∙ sym (take-append-drop n left) ∙ ap₂ (λ a b. a ++ b) (sym copy) (sym rest))
          (Consumes-nil _),
      λ zero room. absurd (omega (arith, some, zero, c.min-count.ensures, room, c.copy_from_slice.ensures.len)),
    )
