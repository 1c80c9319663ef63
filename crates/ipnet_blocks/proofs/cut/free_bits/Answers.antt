use Rattle.std.proofs.Common.{◌≡◌, ◌+◌, ◌-◌, ◌^◌, ◌<◌, ◌≤◌, ap, ◌∙◌, min, arith, inl, inr}
use Rattle.std.specs.Int.Count.{count_trailing_zeros}
use Rattle.std.proofs.lemmas.Bool.{cases_lt}
use Rattle.ipnet_blocks.proofs.FreeBits.{free_by_zeros, free_of_all}
use Rattle.ipnet_blocks.proofs.cut.free_bits.Goals.{in-Some, in-None}
use Rattle.ipnet_blocks.proofs.cut.free_bits.Goals as goal

pub returns-clause-greatest : goal.returns-clause-greatest
returns-clause-greatest c =
    let s = c.args.start in
    let e = c.args.end in
    let most = c.args.most in
    let room = c.match-checked_add.by_room in
    let is : c.min-2.result ≡ min (min (count_trailing_zeros 128 s) room) most = c.min-2.ensures ∙ ap (λ x. min x most) c.min.ensures in
    is ∙ elim c.match-checked_add.branch [
      | in-Some w ↦
          let a : (e - s + 1 < 2 ^ 128) × (w.in-Some.count ≡ e - s + 1) = w.in-Some.ensures in
          free_by_zeros 128 s e most w.in-Some.count room c.requires.order c.requires.in_width a.1 (omega arith) w.by_room-is
      | in-None w ↦
          let all : 2 ^ 128 ≤ e - s + 1 = elim (cases_lt (e - s + 1) (2 ^ 128)) [ inl lt ↦ absurd (w.in-None.ensures lt) | inr ge ↦ ge ] in
          ap (λ r. min (min (count_trailing_zeros 128 s) r) most) w.by_room-is ∙ free_of_all 128 s e most c.requires.order c.ranges.end.fits c.requires.in_width all
    ]
